-- Events sorted by what they stand by.
use Rattle.std.proofs.Common.{◌≡◌, ◌≢◌, ℕ, ◌<◌, inl, inr, Bool, true, false, List, length, map, get_or, arith, subst, sym, ap, ◌∙◌}
use Rattle.std.specs.Prelude.{slice_index_or}
use Rattle.std.specs.Cmp.{IsStrictWeakOrder}
use Rattle.std.specs.List.{IsDistinct}
use Rattle.std.specs.List.Sorted.{IsPermutation, IsSortedBy}
use Rattle.std.specs.Ordering.{is_lt, nat_cmp, ordering_then}
use Rattle.std.proofs.Math.Dec.{eqb}
use Rattle.std.proofs.lemmas.Bool.{cases_eq, eq-eqb, ne_eqb}
use Rattle.std.proofs.lemmas.Bool.Decides.{nat_tests}
use Rattle.std.proofs.lemmas.List.{get_or-map, get_or_default, length-map}
use Rattle.std.proofs.lemmas.List.Sorted.{Contains-permutation, IsPermutation-sym, length_permutation, sorted_far}
use Rattle.std.proofs.lemmas.Map.Keys.{IsDistinct-IsPermutation, IsDistinct-from_apart, apart_from_distinct}
use Rattle.hlc_stamp.specs.Ids.{places_of}
use Rattle.hlc_stamp.specs.declared.id.EventId.{EventId}
use Rattle.hlc_causality.specs.Places.{places_below}
use Rattle.hlc_causality.proofs.PlacesBelow.{length-places_below, place_at as place_below}
use Rattle.hlc_log.specs.CausalOrder.{place_at}
use Rattle.hlc_log.specs.declared.log_event.LogEvent.{LogEvent}
use Rattle.hlc_log.specs.declared.standing_order.Standing.{Standing}
use Rattle.hlc_log.specs.Standing.{StandsBefore, seq_at}
use Rattle.hlc_log.specs.StandingOrder.{IsStandingOrder, standing_at}
use Rattle.hlc_log.proofs.StandingEvents.{stands_either_way}

abbrev no_row : Standing
no_row = record { seq = 0; place = record { 0 = 0 } }

abbrev row_at : List Standing → ℕ → Standing
row_at rows k = slice_index_or rows k no_row

-- the test by which rows are sorted
abbrev pub row_lt : Standing → Standing → Bool
row_lt a b = is_lt (ordering_then (nat_cmp a.seq b.seq) (nat_cmp a.place.0 b.place.0))

rows_compare : IsStrictWeakOrder row_lt
rows_compare = record {
  one_way = λ a b h. grind (arith, nat_tests);
  chain = λ a b d h k. grind (arith, nat_tests);
}

lower_seq : (a b : Standing) → a.seq < b.seq → row_lt a b ≡ true
lower_seq a b lt = grind (arith, nat_tests)

lower_place : (a b : Standing) → a.seq ≡ b.seq → a.place.0 < b.place.0 → row_lt a b ≡ true
lower_place a b same lt = grind (arith, nat_tests)

module _ (events : List LogEvent) (rows sorted : List Standing) (are : rows ≡ map (standing_at events) (places_below (length events)))
    (moved : IsPermutation rows sorted) (up : IsSortedBy row_lt sorted) where
  rows_size : length rows ≡ length events
  rows_size =
      ap (λ (xs : List Standing). length xs) are ∙ length-map (places_below (length events)) (standing_at events) ∙ length-places_below (length events)

  size : length sorted ≡ length events
  size = length_permutation rows sorted moved ∙ rows_size

  row_is : (k : ℕ) → k < length events → row_at rows k ≡ standing_at events k
  row_is k lt =
      ap (λ (xs : List Standing). row_at xs k) are
      ∙ get_or-map (standing_at events) (places_below (length events)) k 0 no_row (omega (arith, lt, length-places_below (length events)))
      ∙ ap (standing_at events) (place_below (length events) k lt)

  -- the event of a sorted row
  event_of : (k : ℕ) → k < length sorted → (e : ℕ) × (e < length events) × (row_at sorted k ≡ standing_at events e)
  event_of k lt =
      let found = Contains-permutation sorted rows (row_at sorted k) (IsPermutation-sym rows sorted moved) (k, lt, get_or_default sorted k (row_at sorted k) no_row lt) in
      let inside : found.0 < length events = omega (arith, found.1, rows_size) in
      (found.0, inside, sym (get_or_default rows found.0 no_row (row_at sorted k) found.1 ∙ found.2) ∙ row_is found.0 inside)

  -- the sorted row of an event
  row_of : (e : ℕ) → e < length events → (k : ℕ) × (k < length sorted) × (row_at sorted k ≡ standing_at events e)
  row_of e lt =
      let within : e < length rows = omega (arith, lt, rows_size) in
      let found = Contains-permutation rows sorted (row_at rows e) moved (e, within, get_or_default rows e (row_at rows e) no_row within) in
      (found.0, found.1, get_or_default sorted found.0 no_row (row_at rows e) found.1 ∙ found.2 ∙ row_is e lt)

  abbrev same_place : Standing → Standing → Bool
  same_place a b = eqb a.place.0 b.place.0

  flips : (a b : Standing) → same_place a b ≡ same_place b a
  flips a b = elim (cases_eq a.place.0 b.place.0) [
    | inl same ↦ eq-eqb a.place.0 b.place.0 same ∙ sym (eq-eqb b.place.0 a.place.0 (sym same))
    | inr differ ↦ ne_eqb a.place.0 b.place.0 differ ∙ sym (ne_eqb b.place.0 a.place.0 (λ same. differ (sym same)))
  ]

  rows_apart : IsDistinct same_place rows
  rows_apart = IsDistinct-from_apart same_place rows (λ i k d lt within.
      let first : (get_or rows i d).place.0 ≡ i =
      ap (λ (row : Standing). row.place.0) (get_or_default rows i d no_row (omega arith) ∙ row_is i (omega (arith, rows_size))) in
      let second : (get_or rows k d).place.0 ≡ k =
      ap (λ (row : Standing). row.place.0) (get_or_default rows k d no_row within ∙ row_is k (omega (arith, rows_size))) in
      ne_eqb (get_or rows i d).place.0 (get_or rows k d).place.0 (λ same. let bad : i ≡ k = sym first ∙ same ∙ second in omega arith))

  differ : (i k : ℕ) → i < k → k < length sorted → (row_at sorted i).place.0 ≢ (row_at sorted k).place.0
  differ i k lt within same =
      let apart = apart_from_distinct same_place sorted i k no_row (IsDistinct-IsPermutation same_place flips rows sorted moved rows_apart) lt within in
      let equal = eq-eqb (row_at sorted i).place.0 (row_at sorted k).place.0 same in
      let bad : true ≡ false = sym equal ∙ apart in
      absurd cc

  stand : (i k : ℕ) → i < k → k < length sorted → StandsBefore events (row_at sorted i).place.0 (row_at sorted k).place.0
  stand i k lt within =
      let a = row_at sorted i in
      let b = row_at sorted k in
      let a_seq : a.seq ≡ seq_at events a.place.0 = seq_of i (omega arith) in
      let b_seq : b.seq ≡ seq_at events b.place.0 = seq_of k within in
      let up_to : row_lt b a ≡ false = sorted_far row_lt rows_compare sorted up i k no_row (omega arith) within in
      elim (stands_either_way events a.place.0 b.place.0 (differ i k lt within)) [
        | inl before ↦ before
        | inr (inl below) ↦ let yes = lower_seq b a (omega arith) in let bad : true ≡ false = sym yes ∙ up_to in absurd cc
        | inr (inr level) ↦ let yes = lower_place b a (b_seq ∙ level.0 ∙ sym a_seq) level.1 in let bad : true ≡ false = sym yes ∙ up_to in absurd cc
      ]
    where
      seq_of : (k : ℕ) → k < length sorted → (row_at sorted k).seq ≡ seq_at events (row_at sorted k).place.0
      seq_of k within =
          let from = event_of k within in
          ap (λ (row : Standing). row.seq) from.2 ∙ sym (ap (λ (row : Standing). seq_at events row.place.0) from.2)

  module _ (ids : List EventId) (ids_are : ids ≡ map (λ (row : Standing). row.place) sorted) where
    ids_size : length ids ≡ length sorted
    ids_size = ap (λ (xs : List EventId). length xs) ids_are ∙ length-map sorted (λ (row : Standing). row.place)

    places_size : length (places_of ids) ≡ length events
    places_size = length-map ids (λ (id : EventId). id.0) ∙ ids_size ∙ size

    place_here : (k : ℕ) → k < length sorted → place_at (places_of ids) k ≡ (row_at sorted k).place.0
    place_here k lt =
        get_or-map (λ (id : EventId). id.0) ids k (record { 0 = 0 }) 0 (omega (arith, lt, ids_size))
        ∙ ap (λ (xs : List EventId). (get_or xs k (record { 0 = 0 })).0) ids_are
        ∙ ap (λ (id : EventId). id.0) (get_or-map (λ (row : Standing). row.place) sorted k no_row (record { 0 = 0 }) lt)

    pub sorted_stand : IsStandingOrder events (places_of ids)
    sorted_stand = record {
      one_each = places_size;
      all = λ e lt.
          let there = row_of e lt in
          let here : place_at (places_of ids) there.0 ≡ e = place_here there.0 there.1 ∙ ap (λ (row : Standing). row.place.0) there.2 in
          let inside : there.0 < length (places_of ids) = omega (arith, there.1, size, places_size) in
          (there.0, inside, get_or_default (places_of ids) there.0 e 0 inside ∙ here);
      exist = λ k lt.
          let within : k < length sorted = omega (arith, lt, size, places_size) in
          let from = event_of k within in
          let here : place_at (places_of ids) k ≡ from.0 = place_here k within ∙ ap (λ (row : Standing). row.place.0) from.2 in
          omega (arith, from.1, here);
      stand = λ j k lt within_places.
          let within : k < length sorted = omega (arith, within_places, size, places_size) in
          subst (λ (x : ℕ). StandsBefore events x (place_at (places_of ids) k)) (sym (place_here j (omega arith)))
          (subst (StandsBefore events (row_at sorted j).place.0) (sym (place_here k within)) (stand j k lt within));
    }
