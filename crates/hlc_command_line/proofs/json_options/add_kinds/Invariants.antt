use Rattle.std.proofs.Common.{take}
use Rattle.clap.specs.Walk.{texts}
use Rattle.hlc_command_line.specs.JsonOptions.{AddKinds}
use Rattle.hlc_command_line.proofs.json_options.add_kinds.Given as goal

-- the values so far added what they mean
abbrev pub invariant-loop-value : goal.invariant-loop-value
invariant-loop-value l = AddKinds (texts (take l.value-index l.values)) l.initial.rules l.rules
