use Rattle.std.proofs.Common.{◌≡◌, ◌≤◌, [], length}
use Rattle.std.specs.Prelude.{All}
use Rattle.std.specs.Vec.{vec_capacity}
use Rattle.hlc_core.proofs.cluster.empty_tables.Given as goal

abbrev pub invariant-loop-node : goal.invariant-loop-node
invariant-loop-node l = record {
  one_each : length l.tables.items ≡ l.node;
  empty : All (λ table. table ≡ []) l.tables.items;
  space : l.nodes ≤ vec_capacity l.tables;
}
