-- The text of a vector, as tools that draw logs read it. Nodes are spelled by a function of their numbers.
use Rattle.std.specs.Prelude.{ℕ, List, [], ◌∷◌, ◌++◌, codes, decimal, filter, flat_map, if◌then◌else◌, length, map, nat_lt, slice_index}
use Rattle.hlc_causality.specs.Places.{places_below}

-- a node with its number in a vector
abbrev pub count_text : (node : List ℕ) → (count : ℕ) → List ℕ
count_text node count = codes "\"" ++ node ++ codes "\":" ++ decimal count

-- what stands before the next of some texts
abbrev pub separator_after : List (List ℕ) → List ℕ
separator_after [] = []
separator_after (text ∷ texts) = codes ", "

-- what a node adds to the text of a vector, after what separates it from others: nothing, if the vector has none of its events
abbrev pub shown_count : (separator node : List ℕ) → (count : ℕ) → List ℕ
shown_count separator node count = if nat_lt 0 count then separator ++ count_text node count else []

-- what then separates the next one
abbrev pub separator_then : (separator : List ℕ) → (count : ℕ) → List ℕ
separator_then separator count = if nat_lt 0 count then codes ", " else separator

-- texts with a comma and a blank between each two
abbrev pub joined : List (List ℕ) → List ℕ
joined [] = []
joined (text ∷ texts) = text ++ flat_map (λ next. codes ", " ++ next) texts

-- of the first n nodes, those of which a vector has events, with their numbers
abbrev pub count_texts : (spelled : ℕ → List ℕ) → (vector : ℕ → ℕ) → (n : ℕ) → List (List ℕ)
count_texts spelled vector n =
    map (λ node. count_text (spelled node) (vector node)) (filter (λ node. nat_lt 0 (vector node)) (places_below n))

-- the line of an event's node and vector
abbrev pub vector_line : (spelled : ℕ → List ℕ) → (node : ℕ) → (vector : List ℕ) → List ℕ
vector_line spelled node vector =
    spelled node ++ codes " {" ++ joined (count_texts spelled (slice_index vector) (length vector)) ++ codes "}\n"
