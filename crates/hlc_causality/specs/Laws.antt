-- The laws of stamps, over any skeleton: none needs a lawful schedule.
use Rattle.std.specs.Prelude.{◌≡◌, ◌↔◌, ℕ, ◌<◌, ◌≤◌, List, [], ◌∷◌, ◌++◌, length, take}
use Rattle.hlc_stamp.specs.Order.{IsAtMost, Pair}
use Rattle.hlc_causality.specs.Assignment.{EachIsAllowed, EachIsLeastAbove, IsAllowed, IsAllowedAt, IsLeast, IsLeastAbove, pair_at}
use Rattle.hlc_causality.specs.Causality.{HappenedBefore, IsDirectPredecessor, Skeleton, SkeletonEvent}
use Rattle.hlc_causality.specs.Chain.{IsChain, IsChainOf, IsForcing, IsOneBefore}
use Rattle.hlc_causality.specs.Past.{IsConsistentCut, IsGreatestReading, IsInPast, LeadsTo}

-- pairs that are each allowed at their place are an allowed assignment, and the other way round
abbrev pub AllowedPlaceByPlace : Type 0
AllowedPlaceByPlace = (s : Skeleton) (pairs : List Pair) → IsAllowed s pairs ↔ ((length pairs ≡ length s) × EachIsAllowed s pairs)

-- pairs that are each the least above their direct predecessors are the least assignment, and the other way round
abbrev pub LeastPlaceByPlace : Type 0
LeastPlaceByPlace = (s : Skeleton) (pairs : List Pair) → IsLeast s pairs ↔ ((length pairs ≡ length s) × EachIsLeastAbove s pairs)

-- each skeleton has a least assignment
abbrev pub LeastListExists : Type 0
LeastListExists = (s : Skeleton) → (pairs : List Pair) × IsLeast s pairs

-- and only one
abbrev pub LeastListIsUnique : Type 0
LeastListIsUnique = (s : Skeleton) (pairs others : List Pair) → IsLeast s pairs → IsLeast s others → pairs ≡ others

-- what is least for all events is least for the first n
abbrev pub PrefixesAreLeast : Type 0
PrefixesAreLeast = (s : Skeleton) (pairs : List Pair) (n : ℕ) → IsLeast s pairs → IsLeast (take n s) (take n pairs)

-- one more event, with the least pair above its direct predecessors: what was least stays least
abbrev pub OneMoreStaysLeast : Type 0
OneMoreStaysLeast = (s : Skeleton) (pairs : List Pair) (x : SkeletonEvent) (p : Pair) → IsLeast s pairs →
    IsLeastAbove (s ++ x ∷ []) pairs (length s) p → IsLeast (s ++ x ∷ []) (pairs ++ p ∷ [])

-- if the pairs at f and at all that happened before it are allowed at their places, the pair at f is not below the least
abbrev pub AllowedPastIsNotLow : Type 0
AllowedPastIsNotLow = (s : Skeleton) (pairs others : List Pair) (f : ℕ) → f < length s → IsLeast s pairs →
    ((e : ℕ) → IsInPast s e f → IsAllowedAt s others e (pair_at others e)) → IsAtMost (pair_at pairs f) (pair_at others f)

-- c of a least pair is at most the event's place
abbrev pub CounterIsAtMostPlace : Type 0
CounterIsAtMostPlace = (s : Skeleton) (pairs : List Pair) (f : ℕ) → f < length s → IsLeast s pairs → (pair_at pairs f).c ≤ f

-- l of a least pair is the greatest reading of the event and of all that happened before it
abbrev pub LIsGreatestReading : Type 0
LIsGreatestReading = (s : Skeleton) (pairs : List Pair) (f : ℕ) → f < length s → IsLeast s pairs → IsGreatestReading s f (pair_at pairs f).l

-- if there is a chain for p at f, every allowed assignment has at least p at f
abbrev pub ChainsForce : Type 0
ChainsForce = (s : Skeleton) (p : Pair) (f : ℕ) (chain : List ℕ) → IsChain s p f chain →
    (pairs : List Pair) → IsAllowed s pairs → IsAtMost p (pair_at pairs f)

-- an event has at most one forcing event, whatever the pairs
abbrev pub ForcingEventIsUnique : Type 0
ForcingEventIsUnique = (s : Skeleton) (pairs : List Pair) (d e f : ℕ) → IsForcing s pairs d f → IsForcing s pairs e f → d ≡ e

-- it is a direct predecessor, whatever the pairs, and so comes earlier
abbrev pub ForcingEventIsDirect : Type 0
ForcingEventIsDirect = (s : Skeleton) (pairs : List Pair) (d f : ℕ) → IsForcing s pairs d f → IsDirectPredecessor s d f

-- with least pairs the forcing event, even if it is the send, has the pair one before
abbrev pub ForcingEventIsOneBefore : Type 0
ForcingEventIsOneBefore = (s : Skeleton) (pairs : List Pair) (d f : ℕ) → IsLeast s pairs → IsForcing s pairs d f →
    IsOneBefore (pair_at pairs d) (pair_at pairs f)

-- each event has its chain, whatever the pairs
abbrev pub ChainOfExists : Type 0
ChainOfExists = (s : Skeleton) (pairs : List Pair) (f : ℕ) → f < length s → (chain : List ℕ) × IsChainOf s pairs f chain

-- and only one
abbrev pub ChainOfIsUnique : Type 0
ChainOfIsUnique = (s : Skeleton) (pairs : List Pair) (f : ℕ) (chain other : List ℕ) → IsChainOf s pairs f chain →
    IsChainOf s pairs f other → chain ≡ other

-- with least pairs the chain of an event is a chain for its pair
abbrev pub ChainOfIsChain : Type 0
ChainOfIsChain = (s : Skeleton) (pairs : List Pair) (f : ℕ) (chain : List ℕ) → IsLeast s pairs →
    IsChainOf s pairs f chain → IsChain s (pair_at pairs f) f chain

-- with allowed pairs, the events whose pairs are at most one pair are a consistent cut
abbrev pub CutsAreClosed : Type 0
CutsAreClosed = (s : Skeleton) (pairs : List Pair) (cut : Pair) → IsAllowed s pairs → IsConsistentCut s (λ e. IsAtMost (pair_at pairs e) cut)

-- the past of f is what walks over direct predecessors lead from
abbrev pub WalksFindThePast : Type 0
WalksFindThePast = (s : Skeleton) (e f : ℕ) → IsInPast s e f ↔ ((rest : List ℕ) × LeadsTo s e rest f)

-- what happened before f is in the past of a direct predecessor of f, and the other way round
abbrev pub LastStepIsDirect : Type 0
LastStepIsDirect = (s : Skeleton) (e f : ℕ) → HappenedBefore s e f ↔ ((d : ℕ) × IsInPast s e d × IsDirectPredecessor s d f)

-- e happened before f exactly if a direct successor of e is in the past of f
abbrev pub FirstStepIsDirect : Type 0
FirstStepIsDirect = (s : Skeleton) (e f : ℕ) → HappenedBefore s e f ↔ ((m : ℕ) × IsDirectPredecessor s e m × IsInPast s m f)
