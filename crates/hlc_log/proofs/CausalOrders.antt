-- Causal prefixes, event by event.
use Rattle.std.proofs.Common.{◌≡◌, ◌≢◌, ℕ, ◌+◌, ◌<◌, ◌≤◌, inl, inr, List, [], ◌∷◌, ◌++◌, length, take, get_or, arith, subst, sym, ap, ◌∙◌}
use Rattle.std.specs.Prelude.{Contains}
use Rattle.std.specs.List.{IsDistinct}
use Rattle.std.proofs.Math.Dec.{eqb}
use Rattle.std.proofs.Math.Seq.{take-append_seam}
use Rattle.std.proofs.lemmas.Bool.{cases_eq, eqb-true, ne_eqb}
use Rattle.std.proofs.lemmas.List.{get_or-take, get_or_append_left, get_or_default, get_or_push, length_push, length-take-le, take-append-le}
use Rattle.std.proofs.lemmas.Map.Keys.{IsDistinct-from_apart}
use Rattle.std.proofs.lemmas.Map.Steps.{length-le_from_distinct_below}
use Rattle.std.proofs.lemmas.Map.Views.{Contains-from_any}
use Rattle.hlc_log.specs.declared.log_event.LogEvent.{LogEvent}
use Rattle.hlc_log.specs.CausalOrder.{IsCausalPrefix, MayComeNext, place_at}

module _ (events : List LogEvent) where
  along : (before others : List ℕ) (f g : ℕ) → before ≡ others → f ≡ g → MayComeNext events others g → MayComeNext events before f
  along before others f g same is h =
      subst (λ (xs : List ℕ). MayComeNext events xs f) (sym same) (subst (MayComeNext events others) (sym is) h)

  -- one more event that may come next
  pub causal-push : (order : List ℕ) (e : ℕ) → IsCausalPrefix events order → MayComeNext events order e → IsCausalPrefix events (order ++ e ∷ [])
  causal-push order e causal next k lt =
      let longer : length (order ++ e ∷ []) ≡ length order + 1 = length_push order e in
      elim (cases_eq k (length order)) [
        | inl last ↦
            let before : take k (order ++ e ∷ []) ≡ order =
            ap (λ (n : ℕ). take n (order ++ e ∷ [])) last ∙ take-append_seam order (e ∷ []) in
            let here : place_at (order ++ e ∷ []) k ≡ e = get_or_push order e 0 k (sym last) in
            along _ _ _ _ before here next
        | inr ne ↦
            let below : k < length order = omega arith in
            let before : take k (order ++ e ∷ []) ≡ take k order = take-append-le k order (e ∷ []) (omega arith) in
            let here : place_at (order ++ e ∷ []) k ≡ place_at order k = get_or_append_left order (e ∷ []) 0 k below in
            along _ _ _ _ before here (causal k below)
      ]

  -- what stands earlier in an order
  pub contained_before : (order : List ℕ) (i k : ℕ) → i < k → k ≤ length order → Contains (take k order) (place_at order i)
  contained_before order i k lt le =
      let size = length-take-le k order le in
      (i, omega arith, get_or-take k order i (place_at order i) lt ∙ get_or_default order i (place_at order i) 0 (omega arith))

  pub place_of_contained : (order : List ℕ) (k e : ℕ) → k ≤ length order → Contains (take k order) e → (i : ℕ) × (i < k) × (place_at order i ≡ e)
  place_of_contained order k e le (i, lt, is) =
      let size = length-take-le k order le in
      let within : i < k = omega arith in
      (i, within, get_or_default order i 0 e (omega arith) ∙ sym (get_or-take k order i e within) ∙ is)

  pub place_in_order : (order : List ℕ) (e : ℕ) → Contains order e → (i : ℕ) × (i < length order) × (place_at order i ≡ e)
  place_in_order order e (i, lt, is) = (i, lt, get_or_default order i 0 e lt ∙ is)

  module _ (order : List ℕ) (causal : IsCausalPrefix events order) where
    pub places_differ : (i k : ℕ) → i < k → k < length order → place_at order i ≢ place_at order k
    places_differ i k lt within same =
        (causal k within).new (subst (Contains (take k order)) same (contained_before order i k lt (omega arith)))

    distinct : IsDistinct eqb order
    distinct = IsDistinct-from_apart eqb order (λ i k d lt within. ne_eqb (get_or order i d) (get_or order k d) (λ same.
        places_differ i k lt within
        (get_or_default order i 0 d (omega arith) ∙ same ∙ get_or_default order k d 0 within)))

    pub contained_exists : (e : ℕ) → Contains order e → e < length events
    contained_exists e inside =
        let at = place_in_order order e inside in
        subst (λ (x : ℕ). x < length events) at.2 (causal at.0 at.1).exists

    -- an order has at most all events
    pub length-order-le : length order ≤ length events
    length-order-le =
        length-le_from_distinct_below order (length events) distinct (λ q found. contained_exists q (Contains-from_any eqb-true q order found))
