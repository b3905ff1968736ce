use Rattle.std.proofs.Common.{◌≡◌, ◌<◌, length}
use Rattle.hlc_explain.specs.KnownOrigins.{AreKnownOrigins}
use Rattle.hlc_explain.specs.Summaries.{origin_of}
use Rattle.hlc_explain.proofs.known_origins.KnownOrigins.mark.Given as goal

-- the next event to be marked has the origin that was found
abbrev pub invariant-loop-origin : goal.invariant-loop-origin
invariant-loop-origin l = record {
  exists : l.at.0 < length l.execution.events;
  origin : l.origin.0 ≡ origin_of l.execution.events l.execution.stamps l.at.0;
  known : AreKnownOrigins l.execution.events l.execution.stamps l.self.origins.items;
}

abbrev pub decreases-loop-origin : goal.decreases-loop-origin
decreases-loop-origin l = l.at.0
