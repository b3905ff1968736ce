use Rattle.std.proofs.Common.{◌≡◌, ◌≤◌, ◌++◌, length, map}
use Rattle.std.specs.Vec.{vec_capacity}
use Rattle.hlc_stamp.specs.declared.id.EventId.{EventId}
use Rattle.hlc_core.specs.Effect.{writes_in}
use Rattle.hlc_core.proofs.node_table.writes_of.Given as goal

abbrev pub invariant-loop-entry : goal.invariant-loop-entry
invariant-loop-entry l = record {
  writes : map (λ (w : EventId). w.0) l.writes.items ++ writes_in l.entry-iterator ≡ writes_in l.table;
  space : length l.table ≤ vec_capacity l.writes;
}
