use Rattle.std.proofs.Common.{◌∙◌}
use Rattle.clap.specs.Words.{new_rule}
use Rattle.hlc_command_line.specs.Rules.{IsArgument}
use Rattle.hlc_command_line.proofs.App.Rules.{has_action, has_help, has_long, is_required, told_bare}
use Rattle.hlc_command_line.proofs.line_command.bare_argument.Goals as goal

pub returns : goal.returns
returns c =
    let name = c.args.option.now.name in
    let new : IsArgument c.new.result (new_rule name.now) = (c.new.ensures.rule, c.new.ensures.optional.1) in
    let long = has_long c.new.result c.long.result _ new name c.long.ensures in
    let help = has_help c.long.result c.help.result _ long c.args.option.now.text c.help.ensures in
    let required = is_required c.help.result c.required.result _ help _ c.required.ensures in
    let made = has_action c.required.result c.action.result _ required _ c.action.ensures in
    (made.0 ∙ told_bare name.now c.args.option.now.takes c.is_required.result c.action_of.result c.is_required.ensures c.action_of.ensures, made.1)
