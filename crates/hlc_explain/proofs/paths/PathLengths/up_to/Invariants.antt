use Rattle.std.proofs.Common.{◌≡◌, ◌+◌, ◌-◌, ◌≤◌, length, vec_capacity}
use Rattle.hlc_explain.specs.Paths.{ArePathLengths}
use Rattle.hlc_explain.proofs.paths.PathLengths.up_to.Given as goal

-- of the events so far it is known
abbrev pub invariant-loop-place : goal.invariant-loop-place
invariant-loop-place l = record {
  first : l.known.first ≡ l.fn.first;
  next : l.fn.first.0 + length l.known.lengths.items ≡ l.place;
  kept : length l.known.lengths.items ≤ l.end - l.fn.first.0;
  room : l.end - l.fn.first.0 ≤ vec_capacity l.known.lengths;
  lengths : ArePathLengths l.execution.events l.fn.first.0 l.known.lengths.items;
}
