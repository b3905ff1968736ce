-- Lists that are made place by place.
use Rattle.std.proofs.Common.{◌≡◌, ◌≢◌, ◌∙◌, ◌⊎◌, ℕ, zero, suc, ◌+◌, ◌<◌, ◌≤◌, Bool, inl, inr, List, [], ◌∷◌, ◌++◌, Contains, Option, Some, None, arith, ap, append-nil, filter, refl, subst, sym}
use Rattle.std.proofs.lemmas.Bool.{cases_eq}
use Rattle.std.specs.List.{filter_map}
use Rattle.std.proofs.lemmas.List.Elements.{Contains-append_cases, Contains-append_left, Contains-append_right, filter-append, filter_map-append}
use Rattle.hlc_figures.specs.Columns.{places_from}

-- what is in a list of one
pub in_one : {X : Type 0} (y x : X) → Contains (y ∷ []) x → y ≡ x
in_one y x h = let lt = h.1 in let zero : h.0 ≡ 0 = omega arith in rw zero at h.2

-- what is a part of one thing is that thing's part
part_cases : {X : Type 0} (o : Option X) → (o ≡ None) ⊎ ((x : X) × (o ≡ Some x))
part_cases None = inl refl
part_cases (Some x) = inr (x, refl)

pub one_part : {X Y : Type 0} (part : Y → Option X) (y : Y) (x : X) → Contains (filter_map part (y ∷ [])) x → part y ≡ Some x
one_part part y x among =
    elim (part_cases (part y)) [
      | inl none ↦ let empty = rw none at among in let lt = empty.1 in absurd (omega arith)
      | inr some ↦ let same : some.0 ≡ x = in_one some.0 x (rw some.1 at among) in some.1 ∙ ap (λ (x : _). Some x) same
    ]

-- and what is one of the parts of some things is the part of one of them
module _ {X Y : Type 0} (part : X → Option Y) where
  pub parts_of : (xs : List X) (y : Y) → Contains (filter_map part xs) y → (x : X) × Contains xs x × (part x ≡ Some y)
  parts_of [] y among = let lt = among.1 in absurd (omega arith)
  parts_of (x ∷ xs) y among =
      let parts = subst (λ (ys : List Y). Contains ys y) (filter_map-append part (x ∷ []) xs) among in
      elim (Contains-append_cases (filter_map part (x ∷ [])) (filter_map part xs) y parts) [
        | inl here ↦ (x, Contains-append_left (x ∷ []) xs x (0, omega arith, refl), one_part part x y here)
        | inr later ↦ (let made = parts_of xs y later in (made.0, Contains-append_right (x ∷ []) xs made.0 made.1, made.2))
      ]

-- each place adds its items to those of the places before
abbrev pub AddsItems : {X : Type 0} → (List ℕ → List X) → (ℕ → List X) → Type 0
AddsItems made item = (places : List ℕ) (p : ℕ) → made (places ++ p ∷ []) ≡ made places ++ item p

-- a part of each of some things, if they have it, and of one more
pub parts_more :
    {X Y : Type 0} (part : Y → Option X) (made : List ℕ → List Y) (one : ℕ → Y) → AddsItems made (λ p. one p ∷ []) →
    AddsItems (λ places. filter_map part (made places)) (λ p. filter_map part (one p ∷ []))
parts_more part made one more places p = ap (filter_map part) (more places p) ∙ filter_map-append part (made places) (one p ∷ [])

module _ {X : Type 0} (made : List ℕ → List X) (item : ℕ → List X) (none : made [] ≡ []) (more : AddsItems made item) where
  -- what is among them is made of one of the places
  pub made_of : (first n : ℕ) (x : X) → Contains (made (places_from first n)) x
      → (p : ℕ) × (first ≤ p) × (p < first + n) × Contains (item p) x
  made_of first zero x among =
      let h : Contains [] x = subst (λ (xs : List X). Contains xs x) none among in
      let lt : h.0 < 0 = h.1 in
      absurd (omega arith)
  made_of first (suc n) x among =
      let parts = subst (λ (xs : List X). Contains xs x) (more (places_from first n) (first + n)) among in
      elim (Contains-append_cases (made (places_from first n)) (item (first + n)) x parts) [
        | inl before ↦
            let h = made_of first n x before in
            let from : first ≤ h.0 = h.1 in
            let to : h.0 < first + n = h.2 in
            (h.0, omega arith, omega arith, h.3)
        | inr last ↦ (first + n, omega arith, omega arith, last)
      ]

  -- what is made of a place is among them
  pub made_there : (first n p : ℕ) (x : X) → first ≤ p → p < first + n → Contains (item p) x → Contains (made (places_from first n)) x
  made_there first zero p x from to h = absurd (omega arith)
  made_there first (suc n) p x from to h =
      let all = more (places_from first n) (first + n) in
      subst (λ (xs : List X). Contains xs x) (sym all) (elim (cases_eq p (first + n)) [
        | inl last ↦ Contains-append_right (made (places_from first n)) (item (first + n)) x (subst (λ (q : ℕ). Contains (item q) x) last h)
        | inr before ↦ Contains-append_left (made (places_from first n)) (item (first + n)) x (made_there first n p x from (omega arith) h)
      ])

  module _ (test : X → Bool) (e : ℕ) (others : (p : ℕ) → p ≢ e → filter test (item p) ≡ []) where
    filtered_more :
        (first n : ℕ) → filter test (made (places_from first (suc n))) ≡ filter test (made (places_from first n))
        ++ filter test (item (first + n))
    filtered_more first n =
        ap (filter test) (more (places_from first n) (first + n)) ∙ filter-append test (made (places_from first n)) (item (first + n))

    filtered_none : (first n : ℕ) → first + n ≤ e → filter test (made (places_from first n)) ≡ []
    filtered_none first zero le = ap (filter test) none
    filtered_none first (suc n) le =
        filtered_more first n ∙ ap (λ (xs : List X). xs ++ filter test (item (first + n))) (filtered_none first n (omega arith))
        ∙ others (first + n) (λ same. absurd (omega arith))

    -- one place alone makes what passes the test
    pub one_passes : (first n : ℕ) → first ≤ e → e < first + n → filter test (made (places_from first n)) ≡ filter test (item e)
    one_passes first zero from to = absurd (omega arith)
    one_passes first (suc n) from to =
        elim (cases_eq e (first + n)) [
          | inl last ↦
              filtered_more first n ∙ ap (λ (xs : List X). xs ++ filter test (item (first + n))) (filtered_none first n (omega arith))
              ∙ ap (λ (p : ℕ). filter test (item p)) (sym last)
          | inr before ↦
              filtered_more first n
              ∙ ap (λ (xs : List X). filter test (made (places_from first n)) ++ xs) (others (first + n) (λ same. before (sym same)))
              ∙ append-nil (filter test (made (places_from first n))) ∙ one_passes first n from (omega arith)
        ]
