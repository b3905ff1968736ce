-- The first item of a list that passes a test, one item on.
use Rattle.std.proofs.Common.{◌≡◌, ◌∙◌, ◌+◌, ◌<◌, Bool, true, false, ℕ, List, Option, Some, ap, cond, drop, get_or, length}
use Rattle.std.specs.Prelude.{find}
use Rattle.std.proofs.lemmas.List.{at_drop_more}

module _ {A : Type 0} (test : A → Bool) (items : List A) where
  -- the first of those from a place on that passes
  abbrev pub first_from : ℕ → Option A
  first_from place = find test (drop place items)

  first_by : (place : ℕ) (d : A) (b : Bool) → place < length items → test (get_or items place d) ≡ b
      → first_from place ≡ cond b (Some (get_or items place d)) (find test (drop (place + 1) items))
  first_by place d b within is =
      at_drop_more (λ (rest : List A). find test rest) items place d within
      ∙ ap (λ (passes : Bool). cond passes (Some (get_or items place d)) (find test (drop (place + 1) items))) is

  pub first-here : (place : ℕ) (d : A) → place < length items → test (get_or items place d) ≡ true → first_from place ≡ Some (get_or items place d)
  first-here place d within is = first_by place d true within is

  pub first-later : (place : ℕ) (d : A) → place < length items → test (get_or items place d) ≡ false → first_from place ≡ first_from (place + 1)
  first-later place d within is = first_by place d false within is
