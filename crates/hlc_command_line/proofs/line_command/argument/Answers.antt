use Rattle.std.proofs.Common.{◌∙◌, Some, ap, sym}
use Rattle.clap.specs.declared.builder.value_parser.ValueParser.{ValueParser}
use Rattle.hlc_command_line.proofs.App.Rules.{has_parser, has_value_name, takes_nothing, takes_some}
use Rattle.hlc_command_line.proofs.line_command.argument.Goals as goal
use Rattle.hlc_command_line.proofs.line_command.argument.Goals.{in-One, in-One-2}

pub returns-in-Nothing : goal.returns-in-Nothing
returns-in-Nothing c =
    let bare = c.bare_argument-argument.ensures in (bare.0 ∙ takes_nothing c.args.option.now.name.now _ c.in-Nothing.is, bare.1)

pub returns-in-One : goal.returns-in-One
returns-in-One c =
    let name = c.args.option.now.name.now in
    let bare = c.bare_argument-argument in
    let value = has_value_name bare.result c.value_name.result _ bare.ensures _ c.value_name.ensures in
    let given = c.value_parser.ensures.given in
    let read = sym (given.1 ∙ ap (λ (p : ValueParser). Some p) given.2) in
    let made = has_parser c.value_name.result c.value_parser.result _ value _ read c.value_parser.ensures.others in
    elim c.in-One-1.branch [
      | in-One w ↦ (made.0 ∙ takes_some name _ _ _ _ w.parser-is w.in-One.is, made.1)
      | in-One-2 w ↦ (made.0 ∙ takes_some name _ _ _ _ w.parser-is w.in-One.is, made.1)
    ]
