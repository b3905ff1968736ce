-- What an execution keeps of each node, and what is always true of it.
use Rattle.std.specs.Prelude.{◌≡◌, ℕ, ◌-◌, ◌<◌, Option, Some, None, List, [], ◌∷◌, ◌++◌, length, map, slice_index_or}
use Rattle.std.specs.Option.{option_map}
use Rattle.hlc_stamp.specs.declared.id.EventId.{EventId}
use Rattle.hlc_stamp.specs.Order.{Pair}
use Rattle.hlc_causality.specs.Causality.{Skeleton, SkeletonEvent}
use Rattle.hlc_causality.specs.NodeEvents.{HasNoEvent, IsFirstOf, IsFurthestAhead, drift_at}
use Rattle.hlc_execution.specs.declared.node_ends.NodeEnds.{NodeEnds}

-- the last event of a node, by what is kept of it
abbrev pub last_in : Option NodeEnds → Option EventId
last_in kept = option_map (λ ends. ends.last) kept

-- a link to the last event of each node
abbrev pub lasts_of : List (Option NodeEnds) → List (Option EventId)
lasts_of kept = map last_in kept

-- a node's first event, and its first event of greatest drift with how much that is
pub record AreEndsOf (s : Skeleton) (pairs : List Pair) (node : ℕ) (ends : NodeEnds) : Type 0 where
  pub first : IsFirstOf s node ends.first.0
  pub furthest : IsFurthestAhead s pairs node ends.furthest.0
  pub drift : drift_at s pairs ends.furthest.0 ≡ ends.drift

-- what is kept of a node is right: something is kept exactly if the node has events
abbrev pub FitsNode : Skeleton → List Pair → ℕ → Option NodeEnds → Type 0
FitsNode s pairs node None = HasNoEvent s node
FitsNode s pairs node (Some ends) = AreEndsOf s pairs node ends

-- so it is for each node
abbrev pub FitsEachNode : Skeleton → List Pair → List (Option NodeEnds) → Type 0
FitsEachNode s pairs kept = (node : ℕ) → node < length kept → FitsNode s pairs node (slice_index_or kept node None)

-- what was right of a node is so after one more event of it, with this place and drift
abbrev pub StaysRight : Option NodeEnds → EventId → ℕ → NodeEnds → Type 0
StaysRight before event drift after =
    (s : Skeleton) (pairs : List Pair) (e : SkeletonEvent) (p : Pair) → length s ≡ event.0 → length pairs ≡ event.0 → p.l - e.reading ≡ drift
    → FitsNode s pairs e.node before → AreEndsOf (s ++ e ∷ []) (pairs ++ p ∷ []) e.node after
