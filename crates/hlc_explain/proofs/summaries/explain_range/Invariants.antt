use Rattle.std.proofs.Common.{take}
use Rattle.hlc_explain.specs.KnownOrigins.{AreKnownOrigins}
use Rattle.hlc_explain.specs.Summaries.{AreSummariesFrom}
use Rattle.hlc_explain.proofs.summaries.explain_range.Given as goal

-- the range is finished up to the place
abbrev pub invariant-loop-place : goal.invariant-loop-place
invariant-loop-place l = record {
  finished : AreSummariesFrom l.execution.events l.execution.stamps l.first (take l.place l.range);
  known : AreKnownOrigins l.execution.events l.execution.stamps l.known.origins.items;
}
