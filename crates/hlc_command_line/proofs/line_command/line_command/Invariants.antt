use Rattle.std.proofs.Common.{take}
use Rattle.hlc_command_line.specs.Rules.{program_app}
use Rattle.hlc_command_line.specs.Subcommand.{IsCommand}
use Rattle.hlc_command_line.specs.declared.subcommand_rule.TheConstants.{SUBCOMMANDS}
use Rattle.hlc_command_line.proofs.App.Commands.{with_named}
use Rattle.hlc_command_line.proofs.line_command.line_command.Given as goal

-- the command has the subcommands so far
abbrev pub invariant-loop-name : goal.invariant-loop-name
invariant-loop-name l = IsCommand l.command (with_named (take l.name-index SUBCOMMANDS) program_app)
