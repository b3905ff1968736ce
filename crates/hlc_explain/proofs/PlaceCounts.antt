-- Counts over the places below a number.
use Rattle.std.proofs.Common.{◌≡◌, ◌≢◌, ◌∙◌, ◌⊎◌, ℕ, zero, suc, ◌+◌, ◌<◌, ◌≤◌, inl, inr, Bool, true, false, cond, arith, refl, sym, ap}
use Rattle.std.specs.Prelude.{count_by}
use Rattle.std.proofs.lemmas.Bool.{cases_Bool, cases_eq}
use Rattle.std.proofs.lemmas.List.Sums.{count_by-le-length, sum_by_push}
use Rattle.hlc_causality.specs.Places.{places_below}
use Rattle.hlc_causality.proofs.PlacesBelow.{length-places_below}

-- how many places below n pass
abbrev pub count_below : (ℕ → Bool) → ℕ → ℕ
count_below p n = count_by p (places_below n)

pub bool_is : (a b : Bool) → (a ≡ true → b ≡ true) → (b ≡ true → a ≡ true) → a ≡ b
bool_is true b to from = sym (to refl)
bool_is false true to from = from refl
bool_is false false to from = refl

module _ (p : ℕ → Bool) where
  pub count_more : (n : ℕ) → count_below p (suc n) ≡ count_below p n + cond (p n) 1 0
  count_more n = sum_by_push (λ k. cond (p k) 1 0) (places_below n) n

  pub count_more_yes : (n : ℕ) → p n ≡ true → count_below p (suc n) ≡ count_below p n + 1
  count_more_yes n is_in = count_more n ∙ ap (λ (b : Bool). count_below p n + cond b 1 0) is_in

  pub count_more_no : (n : ℕ) → p n ≡ false → count_below p (suc n) ≡ count_below p n
  count_more_no n is_out = count_more n ∙ ap (λ (b : Bool). count_below p n + cond b 1 0) is_out ∙ omega arith

  pub count_at_most : (n : ℕ) → count_below p n ≤ n
  count_at_most n = let most = count_by-le-length p (places_below n) in let len = length-places_below n in omega arith

  pub none_counted : (n : ℕ) → ((k : ℕ) → k < n → p k ≡ false) → count_below p n ≡ 0
  none_counted zero none = refl
  none_counted (suc n) none = count_more_no n (none n (omega arith)) ∙ none_counted n (λ k lt. none k (omega arith))

  -- none is counted from m on
  pub none_from : (m n : ℕ) → m ≤ n → ((k : ℕ) → m ≤ k → k < n → p k ≡ false) → count_below p n ≡ count_below p m
  none_from m zero le none = let same : m ≡ zero = omega arith in ap (λ (k : ℕ). count_below p k) (sym same)
  none_from m (suc n) le none = elim (cases_eq m (suc n)) [
    | inl same ↦ ap (λ (k : ℕ). count_below p k) (sym same)
    | inr ne ↦ count_more_no n (none n (omega arith) (omega arith)) ∙ none_from m n (omega arith) (λ k from lt. none k from (omega arith))
  ]

  pub some_or_none : (n : ℕ) → ((k : ℕ) × (k < n) × (p k ≡ true)) ⊎ ((k : ℕ) → k < n → p k ≡ false)
  some_or_none zero = inr (λ k lt. absurd (omega arith))
  some_or_none (suc n) = elim (cases_Bool (p n)) [
    | inl is_in ↦ inl (n, omega arith, is_in)
    | inr is_out ↦ elim (some_or_none n) [
      | inl some ↦ inl (some.0, omega (arith, some.1), some.2)
      | inr none ↦ inr (λ k lt. elim (cases_eq k n) [ inl same ↦ ap p same ∙ is_out | inr ne ↦ none k (omega arith) ])
    ]
  ]

module _ (p q : ℕ → Bool) where
  pub count_same : (n : ℕ) → ((k : ℕ) → k < n → p k ≡ q k) → count_below p n ≡ count_below q n
  count_same zero same = refl
  count_same (suc n) same =
      count_more p n
      ∙ ap (λ (b : Bool). count_below p n + cond b 1 0) (same n (omega arith))
      ∙ ap (λ (m : ℕ). m + cond (q n) 1 0) (count_same n (λ k lt. same k (omega arith)))
      ∙ sym (count_more q n)

  -- what passes p passes q
  pub count_le : (n : ℕ) → ((k : ℕ) → k < n → p k ≡ true → q k ≡ true) → count_below p n ≤ count_below q n
  count_le zero passes = omega arith
  count_le (suc n) passes =
      let before = count_le n (λ k lt. passes k (omega arith)) in
      let others = count_more q n in
      elim (cases_Bool (p n)) [
        | inl is_in ↦ let more = count_more_yes p n is_in in let other = count_more_yes q n (passes n (omega arith) is_in) in omega arith
        | inr is_out ↦ let more = count_more_no p n is_out in omega arith
      ]

  -- and f passes q only
  pub count_lt : (n f : ℕ) → f < n → p f ≡ false → q f ≡ true → ((k : ℕ) → k < n → p k ≡ true → q k ≡ true) → count_below p n < count_below q n
  count_lt zero f lt is_out is_in passes = absurd (omega arith)
  count_lt (suc n) f lt is_out is_in passes = elim (cases_eq f n) [
    | inl same ↦
        let before = count_le n (λ k below. passes k (omega arith)) in
        let more = count_more_no p n (ap p (sym same) ∙ is_out) in
        let other = count_more_yes q n (ap q (sym same) ∙ is_in) in
        omega arith
    | inr ne ↦
        let before = count_lt n f (omega arith) is_out is_in (λ k below. passes k (omega arith)) in
        let others = count_more q n in
        elim (cases_Bool (p n)) [
          | inl is ↦ let more = count_more_yes p n is in let other = count_more_yes q n (passes n (omega arith) is) in omega arith
          | inr isnt ↦ let more = count_more_no p n isnt in omega arith
        ]
  ]

  -- f passes q only, and the other places pass both or neither
  pub count_one_more : (n f : ℕ) → f < n → p f ≡ false → q f ≡ true → ((k : ℕ) → k ≢ f → p k ≡ q k) → count_below q n ≡ count_below p n + 1
  count_one_more zero f lt is_out is_in same = absurd (omega arith)
  count_one_more (suc n) f lt is_out is_in same = elim (cases_eq f n) [
    | inl last ↦
        let before = count_same n (λ k below. same k (omega arith)) in
        let more = count_more_no p n (ap p (sym last) ∙ is_out) in
        let other = count_more_yes q n (ap q (sym last) ∙ is_in) in
        omega arith
    | inr ne ↦
        let before = count_one_more n f (omega arith) is_out is_in same in
        let more = count_more p n ∙ ap (λ (b : Bool). count_below p n + cond b 1 0) (same n (λ is. ne (sym is))) in
        let others = count_more q n in
        omega arith
  ]
