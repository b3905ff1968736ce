-- How the text of a vector grows, node by node.
use Rattle.std.proofs.Common.{◌≡◌, ◌∙◌, ℕ, ◌+◌, ◌<◌, Bool, true, false, List, [], ◌∷◌, ◌++◌, add-one, append-nil, append_assoc, arith, cond, filter, length, map, refl, sym, ap}
use Rattle.std.specs.Prelude.{codes, flat_map, nat_lt}
use Rattle.std.proofs.lemmas.Bool.Decides.{nat_tests}
use Rattle.std.proofs.lemmas.List.{get_or-map, length-map, map-append}
use Rattle.std.proofs.lemmas.List.Concat.{flat_map-append}
use Rattle.std.proofs.lemmas.List.Elements.{filter-append}
use Rattle.hlc_causality.specs.Causality.{Skeleton}
use Rattle.hlc_causality.specs.Places.{places_below}
use Rattle.hlc_causality.proofs.PlacesBelow.{length-places_below, place_at}
use Rattle.hlc_explain.specs.VectorLine.{count_text, count_texts, joined, separator_after, separator_then, shown_count}
use Rattle.hlc_explain.specs.Vectors.{vector_in, vector_of, vectors_of}

-- one more text, after what separates it from the others
joined-push : (texts : List (List ℕ)) (next : List ℕ) → joined (texts ++ next ∷ []) ≡ (joined texts ++ separator_after texts) ++ next
joined-push [] next = append-nil next
joined-push (text ∷ texts) next =
    let separated = λ (t : List ℕ). codes ", " ++ t in
    let last = ap (λ (last : List ℕ). flat_map separated texts ++ last) (append-nil (separated next)) in
    ap (λ (rest : List ℕ). text ++ rest) (flat_map-append separated texts (next ∷ []) ∙ last)
    ∙ sym (append_assoc text (flat_map separated texts) (separated next))
    ∙ sym (append_assoc (text ++ flat_map separated texts) (codes ", ") next)

-- after some text there is a separator
separator-push : (texts : List (List ℕ)) (next : List ℕ) → separator_after (texts ++ next ∷ []) ≡ codes ", "
separator-push [] next = refl
separator-push (text ∷ texts) next = refl

module _ (spelled : ℕ → List ℕ) (vector : ℕ → ℕ) (n : ℕ) where
  abbrev shown : ℕ → List ℕ
  shown node = count_text (spelled node) (vector node)

  counts_by : (here : List ℕ) → cond (nat_lt 0 (vector n)) (n ∷ []) [] ≡ here
      → count_texts spelled vector (n + 1) ≡ count_texts spelled vector n ++ map shown here
  counts_by here is =
      ap (λ (k : ℕ). count_texts spelled vector k) (add-one n)
      ∙ ap (map shown) (filter-append (λ node. nat_lt 0 (vector node)) (places_below n) (n ∷ []))
      ∙ map-append shown (filter (λ node. nat_lt 0 (vector node)) (places_below n)) _
      ∙ ap (λ (more : List ℕ). count_texts spelled vector n ++ map shown more) is

  -- a node of which the vector counts events has its number
  counts-more : 0 < vector n → count_texts spelled vector (n + 1) ≡ count_texts spelled vector n ++ shown n ∷ []
  counts-more some = let is : nat_lt 0 (vector n) ≡ true = grind (arith, nat_tests, some) in counts_by (n ∷ []) (rw is refl)

  -- and no other has
  counts-same : vector n ≡ 0 → count_texts spelled vector (n + 1) ≡ count_texts spelled vector n
  counts-same none =
      let is : nat_lt 0 (vector n) ≡ false = grind (arith, nat_tests, none) in counts_by [] (rw is refl) ∙ append-nil (count_texts spelled vector n)

  -- one node more
  node_by : (some : Bool) → nat_lt 0 (vector n) ≡ some
      → (joined (count_texts spelled vector (n + 1))
      ≡ joined (count_texts spelled vector n) ++ shown_count (separator_after (count_texts spelled vector n)) (spelled n) (vector n))
      × (separator_after (count_texts spelled vector (n + 1)) ≡ separator_then (separator_after (count_texts spelled vector n)) (vector n))
  node_by true is =
      let texts = count_texts spelled vector n in
      let more = counts-more (grind (arith, nat_tests, is)) in (
        ap joined more ∙ joined-push texts (shown n) ∙ append_assoc (joined texts) (separator_after texts) (shown n) ∙ rw is refl,
        ap separator_after more ∙ separator-push texts (shown n) ∙ rw is refl,
      )
  node_by false is =
      let texts = count_texts spelled vector n in
      let same = counts-same (grind (arith, nat_tests, is)) in
      (ap joined same ∙ sym (append-nil (joined texts)) ∙ rw is refl, ap separator_after same ∙ rw is refl)

  pub node_is_put : (base old new separator : List ℕ)
      → separator ≡ separator_after (count_texts spelled vector n) → old ≡ base ++ joined (count_texts spelled vector n)
      → new ≡ old ++ shown_count separator (spelled n) (vector n) → new ≡ base ++ joined (count_texts spelled vector (n + 1))
  node_is_put base old new separator is_separator before grows =
      let texts = count_texts spelled vector n in
      grows ∙ ap (λ (t : List ℕ). t ++ shown_count separator (spelled n) (vector n)) before
      ∙ ap (λ (t : List ℕ). (base ++ joined texts) ++ shown_count t (spelled n) (vector n)) is_separator
      ∙ append_assoc base (joined texts) (shown_count (separator_after texts) (spelled n) (vector n))
      ∙ ap (λ (t : List ℕ). base ++ t) (sym (node_by (nat_lt 0 (vector n)) refl).0)

  pub separator_is_next : (separator next : List ℕ) → separator ≡ separator_after (count_texts spelled vector n)
      → next ≡ separator_then separator (vector n) → next ≡ separator_after (count_texts spelled vector (n + 1))
  separator_is_next separator next is_separator is_next =
      is_next ∙ ap (λ (t : List ℕ). separator_then t (vector n)) is_separator ∙ sym (node_by (nat_lt 0 (vector n)) refl).1

-- the vectors that are kept are those of the definition, one for each event
pub vector_is : (s : Skeleton) (nodes e : ℕ) → e < length s → vector_in (vectors_of s nodes) e ≡ vector_of s nodes e
vector_is s nodes e lt =
    let size = length-places_below (length s) in
    get_or-map (vector_of s nodes) (places_below (length s)) e 0 [] (omega arith) ∙ ap (vector_of s nodes) (place_at (length s) e lt)

pub vectors_size : (s : Skeleton) (nodes : ℕ) → length (vectors_of s nodes) ≡ length s
vectors_size s nodes = length-map (places_below (length s)) (vector_of s nodes) ∙ length-places_below (length s)
