use Rattle.std.proofs.Common.{take}
use Rattle.clap.specs.Walk.{texts}
use Rattle.hlc_command_line.specs.Asked.{AreBeside}
use Rattle.hlc_command_line.proofs.asked.asked_by.Given as goal

-- this is asked by the values so far
abbrev pub invariant-loop-value : goal.invariant-loop-value
invariant-loop-value l = AreBeside (texts (take l.value-index l.values)) l.asked
