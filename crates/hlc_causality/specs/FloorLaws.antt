-- The laws of stamps with floors and ticks, over any events as a clock rule reads them.
use Rattle.std.specs.Prelude.{◌≡◌, ◌↔◌, ℕ, ◌<◌, List, [], ◌∷◌, ◌++◌, length, take}
use Rattle.hlc_stamp.specs.Order.{IsAtMost, Pair}
use Rattle.hlc_causality.specs.Assignment.{pair_at}
use Rattle.hlc_causality.specs.Causality.{HappenedBefore, IsDirectPredecessor}
use Rattle.hlc_causality.specs.ClockChain.{IsClockChain, IsClockChainOf, IsClockForcing, IsNext}
use Rattle.hlc_causality.specs.ClockEvents.{ClockEvent, ClockEvents, clock_skeleton}
use Rattle.hlc_causality.specs.Feasible.{EachIsLeastFeasible, IsFeasible, IsFeasibleAt, IsLeastFeasible, IsLeastFeasibleAt}
use Rattle.hlc_causality.specs.LeastFeasible.{least_feasible}
use Rattle.hlc_causality.specs.Past.{IsConsistentCut, IsGreatestReading, IsInPast}

-- pairs that are feasible never fall along happened-before
abbrev pub FeasibleNeverFalls : Type 0
FeasibleNeverFalls = (t : ClockEvents) (pairs : List Pair) → IsFeasible t pairs → (e f : ℕ) → HappenedBefore (clock_skeleton t) e f →
    IsAtMost (pair_at pairs e) (pair_at pairs f)

-- with feasible pairs, the events whose pairs are at most one pair are a consistent cut
abbrev pub FeasibleCutsAreClosed : Type 0
FeasibleCutsAreClosed = (t : ClockEvents) (pairs : List Pair) (cut : Pair) → IsFeasible t pairs →
    IsConsistentCut (clock_skeleton t) (λ e. IsAtMost (pair_at pairs e) cut)

-- if the pairs at f and at all that happened before it are feasible at their places, the pair at f is not below the least
abbrev pub FeasiblePastIsNotLow : Type 0
FeasiblePastIsNotLow = (t : ClockEvents) (pairs others : List Pair) (f : ℕ) → f < length t → IsLeastFeasible t pairs →
    ((e : ℕ) → IsInPast (clock_skeleton t) e f → IsFeasibleAt t others e (pair_at others e)) → IsAtMost (pair_at pairs f) (pair_at others f)

-- pairs that are each the least that is feasible at its place are the least feasible assignment, and the other way round
abbrev pub LeastFeasiblePlaceByPlace : Type 0
LeastFeasiblePlaceByPlace = (t : ClockEvents) (pairs : List Pair) →
    IsLeastFeasible t pairs ↔ ((length pairs ≡ length t) × EachIsLeastFeasible t pairs)

-- there is a least feasible assignment, and it is the one that is computed
abbrev pub LeastFeasibleIsComputed : Type 0
LeastFeasibleIsComputed = (t : ClockEvents) → IsLeastFeasible t (least_feasible t)

-- and only one
abbrev pub LeastFeasibleIsUnique : Type 0
LeastFeasibleIsUnique = (t : ClockEvents) (pairs others : List Pair) → IsLeastFeasible t pairs → IsLeastFeasible t others → pairs ≡ others

-- what is least for all events is least for the first n
abbrev pub PrefixesAreLeastFeasible : Type 0
PrefixesAreLeastFeasible = (t : ClockEvents) (pairs : List Pair) (n : ℕ) → IsLeastFeasible t pairs → IsLeastFeasible (take n t) (take n pairs)

-- one more event, with the least pair that is feasible there: what was least stays least
abbrev pub OneMoreStaysLeastFeasible : Type 0
OneMoreStaysLeastFeasible = (t : ClockEvents) (pairs : List Pair) (x : ClockEvent) (p : Pair) → IsLeastFeasible t pairs →
    IsLeastFeasibleAt (t ++ x ∷ []) pairs (length t) p → IsLeastFeasible (t ++ x ∷ []) (pairs ++ p ∷ [])

-- l of a least feasible pair is the greatest l of the floors of the event and of all that happened before it
abbrev pub LIsGreatestFloor : Type 0
LIsGreatestFloor = (t : ClockEvents) (pairs : List Pair) (f : ℕ) → f < length t → IsLeastFeasible t pairs →
    IsGreatestReading (clock_skeleton t) f (pair_at pairs f).l

-- if there is a chain for p at f, every feasible assignment has at least p at f
abbrev pub ClockChainsForce : Type 0
ClockChainsForce = (t : ClockEvents) (p : Pair) (f : ℕ) (chain : List ℕ) → IsClockChain t p f chain →
    (pairs : List Pair) → IsFeasible t pairs → IsAtMost p (pair_at pairs f)

-- an event has at most one forcing event, whatever the pairs
abbrev pub ClockForcingIsUnique : Type 0
ClockForcingIsUnique = (t : ClockEvents) (pairs : List Pair) (d e f : ℕ) → IsClockForcing t pairs d f → IsClockForcing t pairs e f → d ≡ e

-- it is a direct predecessor, whatever the pairs, and so comes earlier
abbrev pub ClockForcingIsDirect : Type 0
ClockForcingIsDirect = (t : ClockEvents) (pairs : List Pair) (d f : ℕ) → IsClockForcing t pairs d f →
    IsDirectPredecessor (clock_skeleton t) d f

-- with least pairs the pair of an event is next to that of its forcing event, even if that is the send
abbrev pub ClockForcingIsNext : Type 0
ClockForcingIsNext = (t : ClockEvents) (pairs : List Pair) (d f : ℕ) → IsLeastFeasible t pairs → IsClockForcing t pairs d f →
    IsNext t pairs d f

-- each event has its chain, whatever the pairs
abbrev pub ClockChainOfExists : Type 0
ClockChainOfExists = (t : ClockEvents) (pairs : List Pair) (f : ℕ) → f < length t → (chain : List ℕ) × IsClockChainOf t pairs f chain

-- and only one
abbrev pub ClockChainOfIsUnique : Type 0
ClockChainOfIsUnique = (t : ClockEvents) (pairs : List Pair) (f : ℕ) (chain other : List ℕ) → IsClockChainOf t pairs f chain →
    IsClockChainOf t pairs f other → chain ≡ other

-- with least pairs the chain of an event is a chain for its pair
abbrev pub ClockChainOfIsChain : Type 0
ClockChainOfIsChain = (t : ClockEvents) (pairs : List Pair) (f : ℕ) (chain : List ℕ) → IsLeastFeasible t pairs →
    IsClockChainOf t pairs f chain → IsClockChain t (pair_at pairs f) f chain
