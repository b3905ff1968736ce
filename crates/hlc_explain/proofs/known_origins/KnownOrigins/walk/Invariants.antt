use Rattle.std.proofs.Common.{◌≡◌, ◌<◌, length}
use Rattle.hlc_explain.specs.Summaries.{origin_of}
use Rattle.hlc_explain.proofs.known_origins.KnownOrigins.walk.Given as goal

-- the walk goes to events with the same origin
abbrev pub invariant-loop-before : goal.invariant-loop-before
invariant-loop-before l = record {
  exists : l.at.0 < length l.execution.events;
  origin : origin_of l.execution.events l.execution.stamps l.at.0 ≡ origin_of l.execution.events l.execution.stamps l.fn.event.0;
}

abbrev pub decreases-loop-before : goal.decreases-loop-before
decreases-loop-before l = l.at.0
