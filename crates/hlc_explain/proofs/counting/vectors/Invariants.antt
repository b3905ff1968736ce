use Rattle.std.proofs.Common.{◌≡◌, ◌*◌, ◌≤◌, length, vec_capacity}
use Rattle.hlc_explain.specs.Counts.{AreCounts}
use Rattle.hlc_explain.proofs.counting.vectors.Given as goal

-- the vectors of the events so far are there
abbrev pub invariant-loop-place : goal.invariant-loop-place
invariant-loop-place l = record {
  len : length l.counts.items ≡ l.place * l.execution.nodes;
  capacity : length l.execution.events * l.execution.nodes ≤ vec_capacity l.counts;
  counts : AreCounts l.execution.events l.execution.nodes l.counts.items;
}
