-- Where each event ticks and has its reading with c 0 as its floor, feasible is allowed, and so on: the two theories are one there.
use Rattle.std.specs.Prelude.{◌≡◌, ◌↔◌, ℕ, List}
use Rattle.hlc_stamp.specs.Order.{Pair}
use Rattle.hlc_causality.specs.Assignment.{IsAllowed, IsAllowedAt, IsLeast, IsLeastAbove}
use Rattle.hlc_causality.specs.Causality.{Skeleton}
use Rattle.hlc_causality.specs.Chain.{IsChain, IsChainOf, IsForcing}
use Rattle.hlc_causality.specs.ClockChain.{IsClockChain, IsClockChainOf, IsClockForcing}
use Rattle.hlc_causality.specs.ClockEvents.{clock_skeleton, ticking}
use Rattle.hlc_causality.specs.Feasible.{IsFeasible, IsFeasibleAt, IsLeastFeasible, IsLeastFeasibleAt}
use Rattle.hlc_causality.specs.LeastFeasible.{least_feasible}
use Rattle.hlc_causality.specs.LeastPairs.{least_pairs}

-- as causality sees them they are the events of the skeleton
abbrev pub TickingHasTheSkeleton : Type 0
TickingHasTheSkeleton = (s : Skeleton) → clock_skeleton (ticking s) ≡ s

-- feasible assignments are the allowed ones
abbrev pub TickingFeasibleIsAllowed : Type 0
TickingFeasibleIsAllowed = (s : Skeleton) (pairs : List Pair) → IsAllowed s pairs ↔ IsFeasible (ticking s) pairs

-- the least feasible assignment is the least allowed one
abbrev pub TickingLeastIsLeast : Type 0
TickingLeastIsLeast = (s : Skeleton) (pairs : List Pair) → IsLeast s pairs ↔ IsLeastFeasible (ticking s) pairs

-- what is feasible at a place is what is allowed there
abbrev pub TickingFeasibleAtIsAllowedAt : Type 0
TickingFeasibleAtIsAllowedAt = (s : Skeleton) (pairs : List Pair) (f : ℕ) (p : Pair) →
    IsAllowedAt s pairs f p ↔ IsFeasibleAt (ticking s) pairs f p

-- the least that is feasible at a place is the least above the direct predecessors
abbrev pub TickingLeastAtIsLeastAbove : Type 0
TickingLeastAtIsLeastAbove = (s : Skeleton) (pairs : List Pair) (f : ℕ) (p : Pair) →
    IsLeastAbove s pairs f p ↔ IsLeastFeasibleAt (ticking s) pairs f p

-- forcing events are the same, whatever the pairs
abbrev pub TickingForcingIsForcing : Type 0
TickingForcingIsForcing = (s : Skeleton) (pairs : List Pair) (d f : ℕ) → IsForcing s pairs d f ↔ IsClockForcing (ticking s) pairs d f

-- the chain of an event is the same, whatever the pairs
abbrev pub TickingChainOfIsChainOf : Type 0
TickingChainOfIsChainOf = (s : Skeleton) (pairs : List Pair) (f : ℕ) (chain : List ℕ) →
    IsChainOf s pairs f chain ↔ IsClockChainOf (ticking s) pairs f chain

-- the chains for a pair are the same
abbrev pub TickingChainIsChain : Type 0
TickingChainIsChain = (s : Skeleton) (p : Pair) (f : ℕ) (chain : List ℕ) → IsChain s p f chain ↔ IsClockChain (ticking s) p f chain

-- the computed pairs are the same
abbrev pub TickingPairsAreLeastPairs : Type 0
TickingPairsAreLeastPairs = (s : Skeleton) → least_feasible (ticking s) ≡ least_pairs s
