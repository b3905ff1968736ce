use Rattle.std.proofs.Common.{◌≡◌, ◌≤◌, ◌+◌, ◌-◌, ◌++◌, None}
use Rattle.std.specs.Prelude.{replicate}
use Rattle.std.specs.Vec.{vec_capacity}
use Rattle.hlc_execution.proofs.rules.Rules.give.Given as goal

-- so many events without a rule come after those that stand there
abbrev pub invariant-loop-event : goal.invariant-loop-event
invariant-loop-event l = record {
  receives : l.self-inside.receives ≡ l.initial.self-inside.receives;
  own : l.self-inside.own.items ≡ l.initial.self-inside.own.items ++ replicate l._event None;
  room : l.self-inside.own.len + (l.without - l._event) + 1 ≤ vec_capacity l.self-inside.own;
}
