-- What the floor of an event raised: the events whose least pairs would be lower without it.
use Rattle.std.specs.Prelude.{◌≡◌, ◌↔◌, Bool, ℕ, ◌+◌, ◌<◌, Contains, List, filter, length, slice_set}
use Rattle.std.specs.List.Sorted.{IsStrictlyIncreasing}
use Rattle.std.specs.Ordering.{is_lt}
use Rattle.hlc_stamp.specs.Order.{IsBelow, Pair, stamp_cmp, zero_pair}
use Rattle.hlc_causality.specs.Assignment.{pair_at}
use Rattle.hlc_causality.specs.ClockEvents.{ClockEvents, clock_event_at, clock_skeleton}
use Rattle.hlc_causality.specs.Feasible.{IsLeastFeasible}
use Rattle.hlc_causality.specs.LeastFeasible.{least_feasible}
use Rattle.hlc_causality.specs.Past.{IsInPast}
use Rattle.hlc_causality.specs.Places.{places_below}

-- the events, where the floor of the one at e is (0, 0) and all else is the same
abbrev pub without_floor : ClockEvents → ℕ → ClockEvents
without_floor t e = slice_set t e (record (clock_event_at t e) { floor = zero_pair })

-- the least pairs of the events then
abbrev pub least_without : ClockEvents → ℕ → List Pair
least_without t e = least_feasible (without_floor t e)

-- whether the pair of f is greater than the one that it has then
abbrev pub is_raised : ClockEvents → List Pair → (e f : ℕ) → Bool
is_raised t pairs e f = is_lt (stamp_cmp (pair_at (least_without t e) f) (pair_at pairs f))

-- all events that the floor of the one at e raised, rising
abbrev pub tainted_by : ClockEvents → List Pair → ℕ → List ℕ
tainted_by t pairs e = filter (is_raised t pairs e) (places_below (length t))

-- a list has those least pairs of the events from e on, in order
abbrev pub ArePairsWithout : ClockEvents → ℕ → List Pair → Type 0
ArePairsWithout t e pairs = (k : ℕ) → k < length pairs → pair_at pairs k ≡ pair_at (least_without t e) (e + k)

-- the tainted events that are found are all whose pairs are above those that they have if the floor is (0, 0) and all else the same
abbrev pub TaintedAreFound : Type 0
TaintedAreFound = (t : ClockEvents) (pairs others : List Pair) (e : ℕ) → IsLeastFeasible (without_floor t e) others →
    ((f : ℕ) → Contains (tainted_by t pairs e) f ↔ ((f < length t) × IsBelow (pair_at others f) (pair_at pairs f)))
    × IsStrictlyIncreasing (tainted_by t pairs e)

-- with least pairs each of them is e, or e happened before it
abbrev pub TaintedAreInfluenced : Type 0
TaintedAreInfluenced = (t : ClockEvents) (pairs : List Pair) (e f : ℕ) → e < length t → IsLeastFeasible t pairs →
    Contains (tainted_by t pairs e) f → IsInPast (clock_skeleton t) e f
