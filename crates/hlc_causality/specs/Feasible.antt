-- Assignments that keep to floors and ticks, and the least of them.
use Rattle.std.specs.Prelude.{◌≡◌, ℕ, ◌<◌, Bool, true, false, List, length}
use Rattle.hlc_stamp.specs.Order.{IsAtMost, IsBelow, Pair}
use Rattle.hlc_causality.specs.Assignment.{pair_at}
use Rattle.hlc_causality.specs.Causality.{IsDirectPredecessor}
use Rattle.hlc_causality.specs.ClockEvents.{ClockEvents, clock_event_at, clock_skeleton}

-- q may come directly after p: above it at an event that ticks, else not below it
abbrev pub Follows : Bool → Pair → Pair → Type 0
Follows true p q = IsBelow p q
Follows false p q = IsAtMost p q

-- p is not below the floor of f, and may come directly after the pairs of the direct predecessors of f
pub record IsFeasibleAt (t : ClockEvents) (pairs : List Pair) (f : ℕ) (p : Pair) : Type 0 where
  pub not_below : IsAtMost (clock_event_at t f).floor p
  pub follows : (d : ℕ) → IsDirectPredecessor (clock_skeleton t) d f → Follows (clock_event_at t f).ticks (pair_at pairs d) p

-- an assignment is feasible: one pair for each event, each feasible at its place
pub record IsFeasible (t : ClockEvents) (pairs : List Pair) : Type 0 where
  pub one_each : length pairs ≡ length t
  pub each : (f : ℕ) → f < length t → IsFeasibleAt t pairs f (pair_at pairs f)

-- feasible, and at each event at most what any feasible assignment has there
pub record IsLeastFeasible (t : ClockEvents) (pairs : List Pair) : Type 0 where
  pub feasible : IsFeasible t pairs
  pub least : (others : List Pair) → IsFeasible t others → (e : ℕ) → e < length t → IsAtMost (pair_at pairs e) (pair_at others e)

-- p is the least pair that is feasible at f
pub record IsLeastFeasibleAt (t : ClockEvents) (pairs : List Pair) (f : ℕ) (p : Pair) : Type 0 where
  pub feasible : IsFeasibleAt t pairs f p
  pub least : (q : Pair) → IsFeasibleAt t pairs f q → IsAtMost p q

-- each pair is the least that is feasible at its place
abbrev pub EachIsLeastFeasible : ClockEvents → List Pair → Type 0
EachIsLeastFeasible t pairs = (f : ℕ) → f < length t → IsLeastFeasibleAt t pairs f (pair_at pairs f)
