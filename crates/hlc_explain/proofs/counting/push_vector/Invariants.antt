use Rattle.std.proofs.Common.{◌≡◌, ◌+◌, ◌*◌, length, vec_capacity}
use Rattle.hlc_explain.specs.Counts.{AreCounts}
use Rattle.hlc_explain.proofs.counting.push_vector.Given as goal

-- the numbers of the nodes so far are there
abbrev pub invariant-loop-node : goal.invariant-loop-node
invariant-loop-node l = record {
  len : length l.counts.items ≡ l.fn.event.0 * l.nodes + l.node;
  capacity : vec_capacity l.counts ≡ vec_capacity l.fn.counts;
  counts : AreCounts l.execution.events l.nodes l.counts.items;
}
