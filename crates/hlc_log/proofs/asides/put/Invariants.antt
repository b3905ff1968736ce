use Rattle.std.proofs.Common.{◌≡◌, ◌≤◌, ◌+◌, ◌-◌, ◌++◌}
use Rattle.std.specs.Prelude.{replicate}
use Rattle.std.specs.Vec.{vec_capacity}
use Rattle.hlc_log.proofs.asides.put.Given as goal

-- so many events of which nothing is told come after those that stand there
abbrev pub invariant-loop-event : goal.invariant-loop-event
invariant-loop-event g l = record {
  items : l.items.items ≡ l.initial.items.items ++ replicate l._event l.nothing;
  room : l.items.len + (l.without - l._event) + 1 ≤ vec_capacity l.items;
}
