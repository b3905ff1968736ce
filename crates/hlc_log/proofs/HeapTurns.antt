-- What a push and a pop do to what a heap has.
use Rattle.std.proofs.Common.{◌≡◌, ◌↔◌, ◌⊎◌, inl, inr, List, [], ◌∷◌, arith, subst}
use Rattle.std.specs.Prelude.{Contains}
use Rattle.std.specs.List.Sorted.{IsPermutation}
use Rattle.std.proofs.lemmas.List.Elements.{Contains-append_cases, Contains-append_left, Contains-append_right, Contains-push, Contains-push_cases}
use Rattle.std.proofs.lemmas.List.Sorted.{Contains-permutation, IsPermutation-sym}

-- one more element, in whatever order
pub contains_with : {X : Type 0} (x y : X) (xs ys : List X) → IsPermutation (x ∷ xs) ys → Contains ys y ↔ ((x ≡ y) ⊎ Contains xs y)
contains_with x y xs ys moved = (
  λ inside. elim (Contains-append_cases (x ∷ []) xs y (Contains-permutation ys (x ∷ xs) y (IsPermutation-sym (x ∷ xs) ys moved) inside)) [
    | inl first ↦ elim (Contains-push_cases [] x y first) [ inl none ↦ let lt = none.1 in absurd (omega arith) | inr same ↦ inl same ]
    | inr rest ↦ inr rest
  ],
  λ h. Contains-permutation (x ∷ xs) ys y moved (elim h [
    | inl same ↦ subst (Contains (x ∷ xs)) same (Contains-append_left (x ∷ []) xs x (Contains-push [] x))
    | inr rest ↦ Contains-append_right (x ∷ []) xs y rest
  ]),
)
