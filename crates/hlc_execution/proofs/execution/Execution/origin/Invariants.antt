use Rattle.std.proofs.Common.{◌<◌, List, ℕ, length}
use Rattle.hlc_causality.specs.ClockChain.{ClockForcesAlong}
use Rattle.hlc_execution.specs.Execution.{clock_of}
use Rattle.hlc_execution.proofs.execution.Execution.origin.Given as goal

-- from at, forcing events lead to the event
abbrev pub invariant-loop-before : goal.invariant-loop-before
invariant-loop-before l = record {
  exists : l.at.0 < length l.self.events;
  rest : (rest : List ℕ) × ClockForcesAlong (clock_of l.self) l.self.stamps l.at.0 rest l.fn.id.0;
}

abbrev pub decreases-loop-before : goal.decreases-loop-before
decreases-loop-before l = l.at.0
