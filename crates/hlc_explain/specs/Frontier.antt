-- A frontier: what of a past a walk is yet to look at. It has the latest event, and beside it stands one end for each node: a node's
-- events before its end are within. These events, and all that happened before them, are the rest of the past.
use Rattle.std.specs.Prelude.{◌≡◌, ℕ, ◌+◌, ◌<◌, ◌≤◌, ◌⊎◌, List, [], ◌∷◌, length, max, slice_index, slice_set}
use Rattle.hlc_causality.specs.Causality.{Skeleton, skeleton_at}
use Rattle.hlc_causality.specs.Past.{IsInPast}
use Rattle.hlc_explain.specs.declared.frontier.Frontier.{Frontier}

-- the event at e is within: it comes before its node's end
pub record IsBeforeEnd (s : Skeleton) (ends : List ℕ) (e : ℕ) : Type 0 where
  pub exists : e < length s
  pub before_end : e < slice_index ends (skeleton_at s e).node

-- the event at e is in the past of one within
abbrev pub IsBehind : Skeleton → List ℕ → ℕ → Type 0
IsBehind s ends e = (x : ℕ) × IsBeforeEnd s ends x × IsInPast s e x

-- the event at e is in the rest: in the past of the latest event, or of one within
abbrev pub IsInRest : Skeleton → List ℕ → Frontier → ℕ → Type 0
IsInRest s ends f e = IsInPast s e f.latest.0 ⊎ IsBehind s ends e

-- each end is 0, or comes right after an event of its node
abbrev pub AreEnds : Skeleton → List ℕ → Type 0
AreEnds s ends = (node d : ℕ) → slice_index ends node ≡ d + 1 → (d < length s) × ((skeleton_at s d).node ≡ node)

-- the greatest of the ends, or 0: no event within comes later
abbrev pub last_of : List ℕ → ℕ
last_of [] = 0
last_of (end ∷ ends) = max end (last_of ends)

-- a frontier in an execution: its fields agree with the events, the ends and one another, each node of an event has an end, and all
-- within comes before the latest event
pub record IsFrontier (s : Skeleton) (ends : List ℕ) (f : Frontier) : Type 0 where
  pub has_end : (e : ℕ) → e < length s → (skeleton_at s e).node < length ends
  pub exists : f.latest.0 < length s
  pub at_node : (skeleton_at s f.latest.0).node ≡ f.node.0
  pub are_ends : AreEnds s ends
  pub last_end : f.last_end ≡ last_of ends
  pub latest : f.last_end ≤ f.latest.0

-- the ends with one more event of a node within, and all that comes before it there
abbrev pub ends_with : List ℕ → ℕ → ℕ → List ℕ
ends_with ends node e = slice_set ends node (max (slice_index ends node) (e + 1))

-- a frontier with that event within
abbrev pub frontier_with : Frontier → ℕ → Frontier
frontier_with f e = record f { last_end = max f.last_end (e + 1) }
