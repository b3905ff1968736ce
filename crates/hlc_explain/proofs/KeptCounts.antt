-- Vectors as they are kept, and as a list of them.
use Rattle.std.proofs.Common.{◌≡◌, ◌≢◌, ◌∙◌, ℕ, ◌==◌, zero, suc, ◌+◌, ◌-◌, ◌*◌, ◌<◌, ◌≤◌, ◌++◌, inl, inr, List, [], ◌∷◌, length, get_or, drop, map, Option, Some, None, arith, refl, sym, ap, length-take, length-drop}
use Rattle.std.specs.List.{slice_range}
use Rattle.std.specs.Prelude.{IfSome, if◌then◌else◌, max}
use Rattle.std.proofs.lemmas.Bool.{cases_Bool, cases_eq}
use Rattle.std.proofs.lemmas.Bool.Decides.{nat_tests}
use Rattle.std.proofs.Math.Nat.{mul-add, mul-le-mul_left, mul_comm}
use Rattle.std.proofs.lemmas.List.{get_or-drop, get_or-map, get_or-take, get_or_append_left, get_or_push, length-map, length_push, map_push}
use Rattle.std.proofs.lemmas.List.FromFn.{fill_by_all}
use Rattle.std.proofs.lemmas.Nat.{same_from_place}
use Rattle.hlc_stamp.specs.declared.id.EventId.{EventId}
use Rattle.hlc_causality.specs.Causality.{Skeleton, skeleton_at}
use Rattle.hlc_causality.specs.Neighbours.{NamesPrevious, NamesSend}
use Rattle.hlc_causality.specs.Places.{places_below}
use Rattle.hlc_causality.proofs.PlacesBelow.{length-places_below, place_at}
use Rattle.hlc_explain.specs.Counts.{AreCounts, linked_count, vectors_in}
use Rattle.hlc_explain.specs.Vectors.{count_in, vector_at, vector_in, vector_of, vectors_of}
use Rattle.hlc_explain.proofs.Pasts.{linked_vector_at, vector_at_other, vector_at_own}
use Rattle.hlc_explain.proofs.VectorLaws.{vector_at_most}

add-one-le : (e n : ℕ) → e < n → e + 1 ≤ n
add-one-le e n lt = omega arith

-- the numbers of an event lie before those of the next
pub row_within : (e events nodes : ℕ) → e < events → e * nodes + nodes ≤ events * nodes
row_within e events nodes lt =
    let le = mul-le-mul_left nodes (add-one-le e events lt) in
    let split = mul-add nodes e 1 in
    let same = mul_comm nodes e in
    let all = mul_comm nodes events in
    omega arith

-- what the links of an event name comes before it
pub previous_within : (s : Skeleton) (e nodes n : ℕ) (link : Option EventId) → NamesPrevious s e link → e * nodes ≤ n
    → IfSome link (λ d. d.0 * nodes + nodes ≤ n)
previous_within s e nodes n None named within = tt
previous_within s e nodes n (Some d) named within = let row = row_within d.0 e nodes named.at_node.earlier in omega arith

pub send_within : (s : Skeleton) (e nodes n : ℕ) (link : Option EventId) → NamesSend s e link → e * nodes ≤ n
    → IfSome link (λ d. d.0 * nodes + nodes ≤ n)
send_within s e nodes n None named within = tt
send_within s e nodes n (Some d) named within = let row = row_within d.0 e nodes named.earlier in omega arith

pub linked_at_most : (s : Skeleton) (link : Option EventId) (node : ℕ) → linked_vector_at s link node ≤ length s
linked_at_most s None node = omega arith
linked_at_most s (Some d) node = vector_at_most s d.0 node

-- the number of an event, from those of the events that its links name
pub next_count_is : (s : Skeleton) (e node own m : ℕ) (p q : Option EventId) → e < length s → NamesPrevious s e p → NamesSend s e q
    → own ≡ (skeleton_at s e).node → m ≡ max (linked_vector_at s p node) (linked_vector_at s q node)
    → (if own == node then m + 1 else m) ≡ vector_at s e node
next_count_is s e node own m p q exists previous sent is most = elim (cases_Bool (own == node)) [
  | inl test ↦
      let same : own ≡ node = grind (arith, nat_tests, test) in
      let count = vector_at_own s e p q node previous sent exists (sym is ∙ same) in
      rw test (omega arith)
  | inr test ↦
      let differ : (skeleton_at s e).node ≢ node = λ at_node. let same : own ≡ node = is ∙ at_node in grind (arith, nat_tests, test, same) in
      let count = vector_at_other s e p q node previous sent differ in
      rw test (omega arith)
]

-- one number more
pub counts_more : (s : Skeleton) (nodes e node x : ℕ) (counts : List ℕ) → length counts ≡ e * nodes + node → node < nodes
    → AreCounts s nodes counts → x ≡ vector_at s e node → AreCounts s nodes (counts ++ x ∷ [])
counts_more s nodes e node x counts len here are is = λ d k below within.
    let longer = length_push counts x in
    elim (cases_eq (d * nodes + k) (length counts)) [
      | inl last ↦
          let (same_event, same_node) = same_from_place d k e node nodes below here (last ∙ len) in
          get_or_push counts x 0 (d * nodes + k) (sym last)
          ∙ is
          ∙ ap (λ n. vector_at s n node) (sym same_event)
          ∙ ap (λ n. vector_at s d n) (sym same_node)
      | inr ne ↦
          let before : d * nodes + k < length counts = omega arith in
          get_or_append_left counts (x ∷ []) 0 (d * nodes + k) before ∙ are d k below before
    ]

-- the number that is there for a link is that of the event
pub linked_count_is : (s : Skeleton) (nodes node : ℕ) (counts : List ℕ) (link : Option EventId) → node < nodes
    → AreCounts s nodes counts → IfSome link (λ d. d.0 * nodes + nodes ≤ length counts)
    → linked_count counts nodes link node ≡ linked_vector_at s link node
linked_count_is s nodes node counts None below are within = refl
linked_count_is s nodes node counts (Some d) below are within = let room : d.0 * nodes + nodes ≤ length counts = within in are d.0 node below (omega arith)

map_same : {X : Type 0} (f g : ℕ → X) (n : ℕ) → ((k : ℕ) → k < n → f k ≡ g k) → map f (places_below n) ≡ map g (places_below n)
map_same f g zero same = refl
map_same f g (suc n) same =
    map_push f (places_below n) n
    ∙ ap (λ xs. xs ++ f n ∷ []) (map_same f g n (λ k lt. same k (omega arith)))
    ∙ ap (λ x. map g (places_below n) ++ x ∷ []) (same n (omega arith))
    ∙ sym (map_push g (places_below n) n)

pub length-map_places : {X : Type 0} (f : ℕ → X) (n : ℕ) → length (map f (places_below n)) ≡ n
length-map_places f n = length-map (places_below n) f ∙ length-places_below n

pub get_or-map_places : {X : Type 0} (f : ℕ → X) (n k : ℕ) (d : X) → k < n → get_or (map f (places_below n)) k d ≡ f k
get_or-map_places f n k d lt =
    let len = length-places_below n in
    get_or-map f (places_below n) k 0 d (omega arith) ∙ ap f (place_at n k lt)

-- a list is known by what stands at its places
list_of_places : (f : ℕ → ℕ) (xs : List ℕ) (n : ℕ) → length xs ≡ n → ((k : ℕ) → k < n → get_or xs k 0 ≡ f k) → xs ≡ map f (places_below n)
list_of_places f xs n len each =
    fill_by_all f xs n 0 len each
    ∙ sym (fill_by_all f (map f (places_below n)) n 0 (length-map_places f n) (λ k lt. get_or-map_places f n k 0 lt))

pub length-row : (counts : List ℕ) (start nodes : ℕ) → start + nodes ≤ length counts → length (slice_range counts start (start + nodes)) ≡ nodes
length-row counts start nodes within =
    let dropped = length-drop start counts in
    let taken = length-take (start + nodes - start) (drop start counts) in
    omega arith

get_or-row : (counts : List ℕ) (start nodes k : ℕ) → k < nodes → get_or (slice_range counts start (start + nodes)) k 0 ≡ get_or counts (start + k) 0
get_or-row counts start nodes k lt =
    get_or-take (start + nodes - start) (drop start counts) k 0 (omega arith) ∙ get_or-drop start counts k 0

-- the vectors that all numbers stand for
pub vectors_in_are : (s : Skeleton) (nodes : ℕ) (counts : List ℕ) → length counts ≡ length s * nodes → AreCounts s nodes counts
    → vectors_in nodes (length s) counts ≡ vectors_of s nodes
vectors_in_are s nodes counts len are =
    map_same (λ e. slice_range counts (e * nodes) (e * nodes + nodes)) (vector_of s nodes) (length s) (λ e exists.
    let room = row_within e (length s) nodes exists in
    list_of_places (vector_at s e) (slice_range counts (e * nodes) (e * nodes + nodes)) nodes (length-row counts (e * nodes) nodes (omega arith))
    (λ k lt. get_or-row counts (e * nodes) nodes k lt ∙ are e k lt (omega arith)))

pub vector_in_kept : (nodes events e : ℕ) (counts : List ℕ) → e < events
    → vector_in (vectors_in nodes events counts) e ≡ slice_range counts (e * nodes) (e * nodes + nodes)
vector_in_kept nodes events e counts lt = get_or-map_places (λ n. slice_range counts (n * nodes) (n * nodes + nodes)) events e [] lt

-- what is found in the vectors of all events
pub length-vectors_of : (s : Skeleton) (nodes : ℕ) → length (vectors_of s nodes) ≡ length s
length-vectors_of s nodes = length-map_places (vector_of s nodes) (length s)

pub vector_in-vectors_of : (s : Skeleton) (nodes e : ℕ) → e < length s → vector_in (vectors_of s nodes) e ≡ vector_of s nodes e
vector_in-vectors_of s nodes e exists = get_or-map_places (vector_of s nodes) (length s) e [] exists

pub length-vector_of : (s : Skeleton) (nodes e : ℕ) → length (vector_of s nodes e) ≡ nodes
length-vector_of s nodes e = length-map_places (vector_at s e) nodes

pub count_in-vectors_of : (s : Skeleton) (nodes e node : ℕ) → e < length s → node < nodes → count_in (vectors_of s nodes) e node ≡ vector_at s e node
count_in-vectors_of s nodes e node exists below =
    ap (λ (xs : List ℕ). get_or xs node 0) (vector_in-vectors_of s nodes e exists) ∙ get_or-map_places (vector_at s e) nodes node 0 below

-- and in a list of vectors, if it is that of all events
module _ (s : Skeleton) (nodes : ℕ) (vectors : List (List ℕ)) (all : vectors ≡ vectors_of s nodes) where
  pub has_event : (e : ℕ) → e < length s → e < length vectors
  has_event e exists =
      let len = length-vectors_of s nodes in
      let same : length vectors ≡ length (vectors_of s nodes) = ap (λ (xs : List (List ℕ)). length xs) all in
      omega arith

  pub has_node : (e node : ℕ) → e < length s → node < nodes → node < length (vector_in vectors e)
  has_node e node exists below =
      let len = length-vector_of s nodes e in
      let found = vector_in-vectors_of s nodes e exists in
      let same : length (vector_in vectors e) ≡ length (vector_of s nodes e) =
      ap (λ (xs : List (List ℕ)). length (vector_in xs e)) all ∙ ap (λ (xs : List ℕ). length xs) found in
      omega arith

  pub count_found : (e node : ℕ) → e < length s → node < nodes → count_in vectors e node ≡ vector_at s e node
  count_found e node exists below = ap (λ (xs : List (List ℕ)). count_in xs e node) all ∙ count_in-vectors_of s nodes e node exists below

-- an event of kept vectors is one of those that are kept
pub kept_event : (nodes events e : ℕ) (counts : List ℕ) (view : List (List ℕ)) → vectors_in nodes events counts ≡ view → e < length view → e < events
kept_event nodes events e counts view is lt =
    let len = length-map_places (λ n. slice_range counts (n * nodes) (n * nodes + nodes)) events in
    let same : length (vectors_in nodes events counts) ≡ length view = ap (λ (xs : List (List ℕ)). length xs) is in
    omega arith

-- its vector is a part of the numbers
pub part_is_vector : (nodes events e start : ℕ) (counts : List ℕ) (view : List (List ℕ)) → vectors_in nodes events counts ≡ view
    → start ≡ e * nodes → e < events → slice_range counts start (start + nodes) ≡ vector_in view e
part_is_vector nodes events e start counts view is at lt =
    ap (λ (n : ℕ). slice_range counts n (n + nodes)) at
    ∙ sym (vector_in_kept nodes events e counts lt)
    ∙ ap (λ (vectors : List (List ℕ)). vector_in vectors e) is

-- the vectors of all events, as they are counted
pub all_kept : (s : Skeleton) (nodes width events place : ℕ) (counts : List ℕ) → width ≡ nodes → events ≡ length s → place ≡ length s
    → length counts ≡ place * nodes → AreCounts s nodes counts → vectors_in width events counts ≡ vectors_of s nodes
all_kept s nodes width events place counts same_width same_events end len are =
    ap (λ (n : ℕ). vectors_in n events counts) same_width
    ∙ ap (λ (n : ℕ). vectors_in nodes n counts) same_events
    ∙ vectors_in_are s nodes counts (len ∙ ap (λ (n : ℕ). n * nodes) end) are

-- the greater of the numbers that are there for the links of an event, if those of the events before it are there
module _ (s : Skeleton) (e nodes node : ℕ) (counts : List ℕ) (len : length counts ≡ e * nodes + node) (below : node < nodes)
    (are : AreCounts s nodes counts) where
  count_is : (link : Option EventId) (seen : List ℕ) (x : ℕ) → seen ≡ counts → IfSome link (λ d. d.0 * nodes + nodes ≤ length counts)
      → x ≡ linked_count seen nodes link node → x ≡ linked_vector_at s link node
  count_is link seen x same within is =
      is ∙ ap (λ (xs : List ℕ). linked_count xs nodes link node) same ∙ linked_count_is s nodes node counts link below are within

  pub greatest_is : (previous send : Option EventId) (seen again : List ℕ) (before sent greatest : ℕ) → seen ≡ counts → again ≡ counts
      → NamesPrevious s e previous → NamesSend s e send → before ≡ linked_count seen nodes previous node
      → sent ≡ linked_count again nodes send node → greatest ≡ max before sent
      → greatest ≡ max (linked_vector_at s previous node) (linked_vector_at s send node)
  greatest_is previous send seen again before sent greatest same same_again is_previous is_send before_is sent_is is =
      let of_previous = count_is previous seen before same (previous_within s e nodes (length counts) previous is_previous (omega arith)) before_is in
      let of_send = count_is send again sent same_again (send_within s e nodes (length counts) send is_send (omega arith)) sent_is in
      is ∙ ap (λ (n : ℕ). max n sent) of_previous ∙ ap (max (linked_vector_at s previous node)) of_send
