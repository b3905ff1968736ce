-- Vectors as they are kept: their numbers one after another, those of the first event first.
use Rattle.std.specs.Prelude.{◌≡◌, ℕ, ◌+◌, ◌*◌, ◌<◌, Option, Some, None, List, length, map, slice_index, slice_range}
use Rattle.hlc_stamp.specs.declared.id.EventId.{EventId}
use Rattle.hlc_causality.specs.Causality.{Skeleton}
use Rattle.hlc_causality.specs.Places.{places_below}
use Rattle.hlc_explain.specs.Vectors.{vector_at}

-- the vectors that such numbers stand for
abbrev pub vectors_in : (nodes events : ℕ) → List ℕ → List (List ℕ)
vectors_in nodes events counts = map (λ e. slice_range counts (e * nodes) (e * nodes + nodes)) (places_below events)

-- each number that is there is that of its event and node
abbrev pub AreCounts : Skeleton → (nodes : ℕ) → List ℕ → Type 0
AreCounts s nodes counts =
    (e node : ℕ) → node < nodes → e * nodes + node < length counts → slice_index counts (e * nodes + node) ≡ vector_at s e node

-- the number that is there for the event that a link names and a node, or 0 if it names none
abbrev pub linked_count : List ℕ → (nodes : ℕ) → Option EventId → (node : ℕ) → ℕ
linked_count counts nodes None node = 0
linked_count counts nodes (Some e) node = slice_index counts (e.0 * nodes + node)
