use Rattle.std.proofs.Common.{◌≡◌, ℕ, length, vec_len}
use Rattle.std.specs.Prelude.{sum_by}
use Rattle.hlc_held.specs.Seats.{act_count, log_at, log_of_node}
use Rattle.hlc_held.proofs.logs_by_node.logs_of.Given as goal

abbrev pub invariant-loop-seat : goal.invariant-loop-seat
invariant-loop-seat g l =
    (vec_len l.logs ≡ l.nodes) × ((n : ℕ) → log_at l.logs.items n ≡ log_of_node l.yielded n)
    × (l.shares.parts ≡ length l.yielded)
    × (l.shares.amount ≡ sum_by (λ seat. act_count seat.log) l.yielded)
