use Rattle.std.proofs.Common.{take}
use Rattle.clap.specs.Words.{App}
use Rattle.hlc_command_line.specs.Rules.{with_options_of}
use Rattle.hlc_command_line.specs.Subcommand.{IsCommand}
use Rattle.hlc_command_line.proofs.line_command.subcommand_of.Given as goal

-- the command has the options so far
abbrev pub invariant-loop-option : goal.invariant-loop-option
invariant-loop-option l =
    (a : App) → IsCommand l.initial.command a → IsCommand l.command (with_options_of (take l.option-index l.option-items) a)
