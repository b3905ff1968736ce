-- Least feasible pairs by functions: each is made from its floor and the pairs of the direct predecessors.
use Rattle.std.specs.Prelude.{ℕ, zero, suc, ◌+◌, Bool, Option, Some, None, List, [], ◌∷◌, ◌++◌, length, if◌then◌else◌}
use Rattle.std.specs.Ordering.{is_le}
use Rattle.hlc_stamp.specs.Order.{Pair, stamp_cmp}
use Rattle.hlc_causality.specs.Assignment.{pair_at}
use Rattle.hlc_causality.specs.ClockEvents.{ClockEvents, clock_event_at, clock_skeleton}
use Rattle.hlc_causality.specs.Predecessors.{previous_of, send_of}

-- the least pair that may come directly after p: c is one more at an event that ticks
abbrev pub next_pair : Bool → Pair → Pair
next_pair ticks p = if ticks then record { l = p.l; c = p.c + 1 } else p

-- the greater of two pairs
abbrev pub greater : Pair → Pair → Pair
greater p q = if is_le (stamp_cmp p q) then q else p

-- the least pair that is at least p and may come directly after that of an event, if there is one
abbrev pub greater_next : Bool → List Pair → Pair → Option ℕ → Pair
greater_next ticks pairs p None = p
greater_next ticks pairs p (Some d) = greater p (next_pair ticks (pair_at pairs d))

-- the greatest of the floor of f and of the next pairs of its previous event and of its send
abbrev pub least_feasible_at : ClockEvents → List Pair → ℕ → Pair
least_feasible_at t pairs f =
    let x = clock_event_at t f in
    let s = clock_skeleton t in
    greater_next x.ticks pairs (greater_next x.ticks pairs x.floor (previous_of s f)) (send_of s f)

-- the least feasible pairs of the first n events
abbrev pub first_least_feasible : ClockEvents → ℕ → List Pair
first_least_feasible t zero = []
first_least_feasible t (suc n) = let before = first_least_feasible t n in before ++ least_feasible_at t before n ∷ []

-- the least feasible pair of each event
unfoldable pub least_feasible : ClockEvents → List Pair
least_feasible t = first_least_feasible t (length t)
