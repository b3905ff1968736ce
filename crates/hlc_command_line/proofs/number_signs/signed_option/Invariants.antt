use Rattle.std.proofs.Common.{take}
use Rattle.std.specs.List.{AllByRecursion}
use Rattle.clap.specs.Matches.{found_of}
use Rattle.clap.specs.Walk.{rows_of, texts}
use Rattle.hlc_command_line.specs.NumberOption.{IsSigned}
use Rattle.hlc_command_line.proofs.number_signs.signed_option.Given as goal

-- none so far has a sign
abbrev pub invariant-loop-name : goal.invariant-loop-name
invariant-loop-name l = AllByRecursion (λ name. ¬ IsSigned (rows_of (found_of l.options)) name) (texts (take l.name-index l.names))
