-- The vector clock of each event (Fidge 1988, Mattern 1989).
use Rattle.std.specs.Prelude.{ℕ, ◌==◌, ◌&&◌, ◌||◌, Bool, List, [], count_by, length, map, slice_index, slice_index_or}
use Rattle.hlc_causality.specs.Causality.{Skeleton, skeleton_at}
use Rattle.hlc_causality.specs.Places.{places_below}
use Rattle.hlc_explain.specs.Findings.{happened_before}

-- whether d is an event of a node that is e or happened before it
abbrev pub is_counted : Skeleton → (e node d : ℕ) → Bool
is_counted s e node d = ((skeleton_at s d).node == node) && ((d == e) || happened_before s d e)

-- how many of a node's events are e or happened before it
abbrev pub vector_at : Skeleton → (e node : ℕ) → ℕ
vector_at s e node = count_by (is_counted s e node) (places_below (length s))

-- the vector of e: such a number for each node
abbrev pub vector_of : Skeleton → (nodes e : ℕ) → List ℕ
vector_of s nodes e = map (vector_at s e) (places_below nodes)

-- the vector of each event
abbrev pub vectors_of : Skeleton → (nodes : ℕ) → List (List ℕ)
vectors_of s nodes = map (vector_of s nodes) (places_below (length s))

-- in a list of vectors, that of e, and its number for a node
abbrev pub vector_in : List (List ℕ) → ℕ → List ℕ
vector_in vectors e = slice_index_or vectors e []

abbrev pub count_in : List (List ℕ) → (e node : ℕ) → ℕ
count_in vectors e node = slice_index (vector_in vectors e) node
