use Rattle.std.proofs.Common.{◌≡◌, ◌+◌, ◌-◌, ◌≤◌, length, vec_capacity}
use Rattle.hlc_execution.specs.Execution.{clock_of}
use Rattle.hlc_explain.specs.Taints.{ArePairsWithout}
use Rattle.hlc_explain.proofs.taints.WithoutFloor.of.Given as goal

-- the stamps of the events so far are kept
abbrev pub invariant-loop-place : goal.invariant-loop-place
invariant-loop-place l = record {
  event : l.without.event ≡ l.fn.event;
  next : l.fn.event.0 + length l.without.stamps.items ≡ l.place;
  room : l.len - l.fn.event.0 ≤ vec_capacity l.without.stamps;
  stamps : ArePairsWithout (clock_of l.execution) l.fn.event.0 l.without.stamps.items;
}
