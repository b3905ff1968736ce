-- The laws of vectors, over any skeleton.
use Rattle.std.specs.Prelude.{◌≡◌, ◌≢◌, ◌↔◌, ℕ, ◌+◌, ◌<◌, ◌≤◌, ◌==◌, count_by, length}
use Rattle.hlc_causality.specs.Causality.{HappenedBefore, Skeleton, skeleton_at}
use Rattle.hlc_causality.specs.Past.{IsInPast}
use Rattle.hlc_causality.specs.Places.{places_below}
use Rattle.hlc_explain.specs.Vectors.{vector_at}

-- e happened before f exactly if they are two events and no node has a greater number at e than at f
abbrev pub VectorOrderIsHappenedBefore : Type 0
VectorOrderIsHappenedBefore = (s : Skeleton) (e f : ℕ) → e < length s → f < length s →
    HappenedBefore s e f ↔ ((e ≢ f) × ((node : ℕ) → vector_at s e node ≤ vector_at s f node))

-- for that one number is enough: e is f or happened before it exactly if the number of e's own node is at e at most that at f
abbrev pub OwnCountTellsThePast : Type 0
OwnCountTellsThePast = (s : Skeleton) (e f : ℕ) → e < length s → f < length s →
    IsInPast s e f ↔ (vector_at s e (skeleton_at s e).node ≤ vector_at s f (skeleton_at s e).node)

-- an event's number for its own node is how many events the node has up to it
abbrev pub OwnCountIsNodesEvents : Type 0
OwnCountIsNodesEvents = (s : Skeleton) (e : ℕ) → e < length s →
    vector_at s e (skeleton_at s e).node ≡ count_by (λ d. (skeleton_at s d).node == (skeleton_at s e).node) (places_below (e + 1))
