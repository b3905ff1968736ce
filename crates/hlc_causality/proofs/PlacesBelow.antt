-- Tests over the places below a number.
use Rattle.std.proofs.Common.{◌≡◌, ℕ, zero, suc, ◌+◌, ◌<◌, ◌≤◌, inl, inr, Bool, true, false, cond, List, [], ◌∷◌, ◌++◌, length, get_or, arith, refl, subst, sym, ap, ◌∙◌}
use Rattle.std.specs.List.{Contains, filter}
use Rattle.std.specs.List.Sorted.{IsStrictlyIncreasing}
use Rattle.std.proofs.lemmas.Bool.{cases_eq}
use Rattle.std.proofs.lemmas.List.{get_or_append_left, get_or_push, length_push}
use Rattle.std.proofs.lemmas.List.Elements.{Contains-append_cases, Contains-append_left, Contains-append_right, Contains-push, filter-append}
use Rattle.std.proofs.lemmas.List.Kept.{IsStrictlyIncreasing-filter}
use Rattle.hlc_causality.specs.Places.{places_below}

pub length-places_below : (n : ℕ) → length (places_below n) ≡ n
length-places_below zero = refl
length-places_below (suc n) = length_push (places_below n) n ∙ omega (arith, length-places_below n)

pub place_at : (n k : ℕ) → k < n → get_or (places_below n) k 0 ≡ k
place_at zero k lt = absurd (omega arith)
place_at (suc n) k lt = elim (cases_eq k n) [
  | inl last ↦ get_or_push (places_below n) n 0 k (length-places_below n ∙ sym last) ∙ sym last
  | inr ne ↦
      let below : k < n = omega arith in
      get_or_append_left (places_below n) (n ∷ []) 0 k (omega (arith, length-places_below n)) ∙ place_at n k below
]

module _ (p : ℕ → Bool) where
  -- the place n, if it passes
  abbrev place_if : ℕ → Bool → List ℕ
  place_if n passes = cond passes (n ∷ []) []

  pub filter-places_more : (n : ℕ) → filter p (places_below (suc n)) ≡ filter p (places_below n) ++ cond (p n) (n ∷ []) []
  filter-places_more n = filter-append p (places_below n) (n ∷ [])

  pub passing_places_rise : (n : ℕ) → IsStrictlyIncreasing (filter p (places_below n))
  passing_places_rise n = IsStrictlyIncreasing-filter p (places_below n) (λ k lt.
      let size = length-places_below n in
      let this = place_at n k (omega arith) in
      let next = place_at n (k + 1) (omega arith) in
      omega arith)

  pub contains_passing : (n f : ℕ) → f < n → p f ≡ true → Contains (filter p (places_below n)) f
  contains_passing zero f lt passes = absurd (omega arith)
  contains_passing (suc n) f lt passes = subst (λ (xs : List ℕ). Contains xs f) (sym (filter-places_more n)) (elim (cases_eq f n) [
    | inl last ↦
        let passing : place_if n (p n) ≡ n ∷ [] = ap (place_if n) (sym (ap p last) ∙ passes) in
        let only : f ∷ [] ≡ place_if n (p n) = sym (passing ∙ ap (λ x. x ∷ []) (sym last)) in
        let here : Contains (place_if n (p n)) f = subst (λ (xs : List ℕ). Contains xs f) only (Contains-push [] f) in
        Contains-append_right (filter p (places_below n)) (place_if n (p n)) f here
    | inr ne ↦ Contains-append_left (filter p (places_below n)) (cond (p n) (n ∷ []) []) f (contains_passing n f (omega arith) passes)
  ])

  pub passing_from_contains : (n f : ℕ) → Contains (filter p (places_below n)) f → (f < n) × (p f ≡ true)
  passing_from_contains zero f (k, lt, is) = absurd (omega arith)
  passing_from_contains (suc n) f among =
      let parts = subst (λ (xs : List ℕ). Contains xs f) (filter-places_more n) among in
      elim (Contains-append_cases (filter p (places_below n)) (place_if n (p n)) f parts) [
        | inl before ↦ let h = passing_from_contains n f before in (omega (arith, h.0), h.1)
        | inr last ↦ passing_last (p n) n f refl last
      ]
    where
      passing_last : (b : Bool) (n f : ℕ) → p n ≡ b → Contains (cond b (n ∷ []) []) f → (f < suc n) × (p f ≡ true)
      passing_last true n f is (zero, lt, same) = (omega (arith, same), ap p (sym same) ∙ is)
      passing_last true n f is (suc k, lt, same) = absurd (omega arith)
      passing_last false n f is (k, lt, same) = absurd (omega arith)

  pub no_place_passes : (n : ℕ) → ((k : ℕ) → k < n → p k ≡ false) → filter p (places_below n) ≡ []
  no_place_passes zero none = refl
  no_place_passes (suc n) none =
      let before = no_place_passes n (λ k lt. none k (omega arith)) in
      let here = none n (omega arith) in
      filter-places_more n ∙ (ap (λ xs. xs ++ cond (p n) (n ∷ []) []) before ∙ ap (λ b. [] ++ cond b (n ∷ []) []) here)

module _ (p q : ℕ → Bool) where
  pub same_places_pass : (n : ℕ) → ((k : ℕ) → k < n → p k ≡ q k) → filter p (places_below n) ≡ filter q (places_below n)
  same_places_pass zero same = refl
  same_places_pass (suc n) same =
      let before = same_places_pass n (λ k lt. same k (omega arith)) in
      let here = same n (omega arith) in
      filter-places_more p n
      ∙ (ap (λ xs. xs ++ cond (p n) (n ∷ []) []) before ∙ ap (λ b. filter q (places_below n) ++ cond b (n ∷ []) []) here)
      ∙ sym (filter-places_more q n)

  -- g is the first that passes p, and q passes those after it
  pub first_place_passes : (g n : ℕ) → g < n → ((k : ℕ) → k < g → p k ≡ false) → p g ≡ true
      → ((k : ℕ) → k ≤ g → q k ≡ false) → ((k : ℕ) → g < k → p k ≡ q k)
      → filter p (places_below n) ≡ g ∷ filter q (places_below n)
  first_place_passes g zero lt below here none above = absurd (omega arith)
  first_place_passes g (suc n) lt below here none above = elim (cases_eq g n) [
    | inl last ↦
        let before = no_place_passes p n (λ k lt. below k (omega arith)) in
        let others = no_place_passes q (suc n) (λ k lt. none k (omega arith)) in
        filter-places_more p n
        ∙ (ap (λ xs. xs ++ cond (p n) (n ∷ []) []) before ∙ ap (λ b. [] ++ cond b (n ∷ []) []) (sym (ap p last) ∙ here))
        ∙ ap (λ x. x ∷ []) (sym last)
        ∙ ap (λ xs. g ∷ xs) (sym others)
    | inr ne ↦
        let before = first_place_passes g n (omega arith) below here none above in
        filter-places_more p n
        ∙ ap (λ xs. xs ++ cond (p n) (n ∷ []) []) before
        ∙ ap (λ b. (g ∷ filter q (places_below n)) ++ cond b (n ∷ []) []) (above n (omega arith))
        ∙ ap (λ xs. g ∷ xs) (sym (filter-places_more q n))
  ]
