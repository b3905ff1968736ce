use Rattle.std.proofs.Common.{◌≡◌, ◌+◌, vec_capacity, vec_len}
use Rattle.hlc_held.specs.Seats.{fresh_seats}
use Rattle.hlc_held.proofs.seat.seats_for.Given as goal

abbrev pub invariant-loop-node : goal.invariant-loop-node
invariant-loop-node g l =
    (l.all.parts + l.node ≡ l.nodes) × (l.all.amount ≡ 0) × (l.seats.items ≡ fresh_seats l.node)
    × (vec_len l.seats ≡ l.node) × (vec_capacity l.seats ≡ l.nodes)
