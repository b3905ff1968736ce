use Rattle.std.proofs.Common.{List, ap, subst}
use Rattle.std.proofs.lemmas.List.{take_all}
use Rattle.hlc_command_line.specs.Line.{line_app}
use Rattle.hlc_command_line.specs.Rules.{program_app}
use Rattle.hlc_command_line.specs.Subcommand.{IsCommand}
use Rattle.hlc_command_line.specs.declared.subcommand_rule.SubcommandName.{SubcommandName}
use Rattle.hlc_command_line.proofs.App.Commands.{has_bin_name, subcommand_more, with_named}
use Rattle.hlc_command_line.proofs.line_command.line_command.Goals as goal

pub loop-name-preserved : goal.loop-name-preserved
loop-name-preserved c =
    subcommand_more _ _ _ _ _ _ _ c.loop-name-test.true c.loop-name.invariant c.in_ok-subcommand.ensures c.in_ok-command.ensures

pub returns : goal.returns
returns c =
    let all = ap (λ (names : List SubcommandName). with_named names program_app) (take_all _ _ c.loop-name-test.false) in
    let told : IsCommand c.loop-name.command line_app = subst (IsCommand c.loop-name.command) all c.loop-name.invariant in
    has_bin_name _ _ line_app c.bin_name.result told c.bin_name.ensures
