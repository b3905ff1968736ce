use Rattle.std.proofs.Common.{◌≡◌, ℕ, [], vec_capacity, vec_len}
use Rattle.hlc_held.specs.Seats.{log_at}
use Rattle.hlc_held.proofs.logs_by_node.empty_logs.Given as goal

abbrev pub invariant-loop-node : goal.invariant-loop-node
invariant-loop-node l = (vec_len l.logs ≡ l.node) × ((n : ℕ) → log_at l.logs.items n ≡ []) × (vec_capacity l.logs ≡ l.nodes)
