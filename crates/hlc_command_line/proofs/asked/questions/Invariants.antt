use Rattle.std.proofs.Common.{take}
use Rattle.clap.specs.Walk.{texts}
use Rattle.hlc_command_line.specs.Asked.{AreAsked}
use Rattle.hlc_command_line.proofs.asked.questions.Given as goal

-- the values so far ask these questions
abbrev pub invariant-loop-value : goal.invariant-loop-value
invariant-loop-value l = AreAsked (texts (take l.value-index l.values)) l.asked.items
