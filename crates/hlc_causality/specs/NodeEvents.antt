-- The events of one node: the first of them, and the one that is furthest ahead.
use Rattle.std.specs.Prelude.{◌≡◌, ℕ, ◌-◌, ◌<◌, ◌≤◌, Option, Some, None, List, length}
use Rattle.hlc_stamp.specs.declared.id.EventId.{EventId}
use Rattle.hlc_stamp.specs.Order.{Pair}
use Rattle.hlc_causality.specs.Assignment.{pair_at}
use Rattle.hlc_causality.specs.Causality.{Skeleton, skeleton_at}

-- the drift of the event at e: how far its l is ahead of its reading
abbrev pub drift_at : Skeleton → List Pair → ℕ → ℕ
drift_at s pairs e = (pair_at pairs e).l - (skeleton_at s e).reading

-- there is an event at e, and it is a node's
pub record IsEventOf (s : Skeleton) (node e : ℕ) : Type 0 where
  pub exists : e < length s
  pub at_node : (skeleton_at s e).node ≡ node

-- there is no event of a node
abbrev pub HasNoEvent : Skeleton → ℕ → Type 0
HasNoEvent s node = (e : ℕ) → ¬ IsEventOf s node e

-- the event at e is the first of a node's events
pub record IsFirstOf (s : Skeleton) (node e : ℕ) : Type 0 where
  pub event : IsEventOf s node e
  pub first : (d : ℕ) → IsEventOf s node d → e ≤ d

-- the answer is the first event of a node, or None if the node has no event
abbrev pub NamesFirst : Skeleton → ℕ → Option EventId → Type 0
NamesFirst s node None = HasNoEvent s node
NamesFirst s node (Some e) = IsFirstOf s node e.0

-- the event at e is the first of greatest drift among a node's events
pub record IsFurthestAhead (s : Skeleton) (pairs : List Pair) (node e : ℕ) : Type 0 where
  pub event : IsEventOf s node e
  pub none_greater : (d : ℕ) → IsEventOf s node d → drift_at s pairs d ≤ drift_at s pairs e
  pub first : (d : ℕ) → IsEventOf s node d → d < e → drift_at s pairs d < drift_at s pairs e

-- the answer is the first event of greatest drift among a node's events, or None if the node has no event
abbrev pub NamesFurthestAhead : Skeleton → List Pair → ℕ → Option EventId → Type 0
NamesFurthestAhead s pairs node None = HasNoEvent s node
NamesFurthestAhead s pairs node (Some e) = IsFurthestAhead s pairs node e.0
