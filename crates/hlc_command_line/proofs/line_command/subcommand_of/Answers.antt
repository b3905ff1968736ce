use Rattle.std.proofs.Common.{◌∙◌, List, ap, subst}
use Rattle.std.proofs.lemmas.List.{take_all}
use Rattle.clap.specs.Words.{new_app}
use Rattle.hlc_command_line.specs.Rules.{with_options_of}
use Rattle.hlc_command_line.specs.Subcommand.{IsCommand}
use Rattle.hlc_command_line.specs.declared.option_rule.OptionRule.{OptionRule}
use Rattle.hlc_command_line.proofs.App.Commands.{option_more}
use Rattle.hlc_command_line.proofs.line_command.subcommand_of.Goals as goal

pub loop-option-preserved : goal.loop-option-preserved
loop-option-preserved c a is =
    option_more _ _ a _ _ _ _ c.loop-option-test.true (c.loop-option.invariant a is) c.argument.ensures c.in_ok-command.ensures

pub returns : goal.returns
returns c =
    let rule = c.subcommand_rule-rule.result in
    let all = ap (λ (rules : List OptionRule). with_options_of rules (new_app rule.name.now)) (take_all _ _ c.loop-option-test.false) in
    subst (IsCommand c.loop-option.command) (all ∙ c.subcommand_rule-rule.ensures) (c.loop-option.invariant _ c.bare_command-command.ensures)
