-- Lists of the same elements, in one order.
use Rattle.std.proofs.Common.{◌≡◌, ◌↔◌, zero, suc, inl, inr, List, [], ◌∷◌, arith, refl, subst, sym, ap, ◌∙◌, ◌⊎◌}
use Rattle.std.specs.Prelude.{AllPairs, Contains}
use Rattle.std.proofs.lemmas.List.Elements.{All-contains, Contains-append_right}

module _ {X : Type 0} (R : X → X → Type 0) (asymmetric : (a b : X) → R a b → R b a → ⊥) where
  head_or_later : (x y : X) (xs : List X) → AllPairs R (x ∷ xs) → Contains (x ∷ xs) y → (x ≡ y) ⊎ (R x y × Contains xs y)
  head_or_later x y xs ordered (zero, within, is) = inl is
  head_or_later x y xs ordered (suc k, within, is) =
      inr (subst (R x) is (ordered zero (suc k) y (omega arith) within), (k, omega arith, is))

  rest_ordered : (x : X) (xs : List X) → AllPairs R (x ∷ xs) → AllPairs R xs
  rest_ordered x xs ordered i j d lt within = ordered (suc i) (suc j) d (omega arith) (omega arith)

  same_head : (x y : X) (xs ys : List X) → AllPairs R (x ∷ xs) → AllPairs R (y ∷ ys) → Contains (y ∷ ys) x → Contains (x ∷ xs) y → x ≡ y
  same_head x y xs ys by_x by_y among_ys among_xs = elim (head_or_later x y xs by_x among_xs) [
    | inl same ↦ same
    | inr later ↦ elim (head_or_later y x ys by_y among_ys) [
      | inl same ↦ sym same
      | inr earlier ↦ absurd (asymmetric x y later.0 earlier.0)
    ]
  ]

  among_rest : (x z : X) (xs ys : List X) → AllPairs R (x ∷ xs) → AllPairs R (x ∷ ys) →
      (Contains (x ∷ xs) z → Contains (x ∷ ys) z) → Contains xs z → Contains ys z
  among_rest x z xs ys by_xs by_ys same among = elim (head_or_later x z ys by_ys (same (Contains-append_right (x ∷ []) xs z among))) [
    | inl is ↦
        let itself : R x z = All-contains (R x) xs z (λ k d within. by_xs zero (suc k) d (omega arith) (omega arith)) among in
        let twice : R x x = subst (R x) (sym is) itself in
        absurd (asymmetric x x twice twice)
    | inr later ↦ later.1
  ]

  -- an order that goes one way alone leaves one list of the same elements
  pub one_order : (xs ys : List X) → AllPairs R xs → AllPairs R ys → ((x : X) → Contains xs x ↔ Contains ys x) → xs ≡ ys
  one_order [] [] by_xs by_ys same = refl
  one_order [] (y ∷ ys) by_xs by_ys same = let none = ((same y).1 (zero, omega arith, refl)).1 in absurd (omega arith)
  one_order (x ∷ xs) [] by_xs by_ys same = let none = ((same x).0 (zero, omega arith, refl)).1 in absurd (omega arith)
  one_order (x ∷ xs) (y ∷ ys) by_xs by_ys same =
      let head : x ≡ y = same_head x y xs ys by_xs by_ys ((same x).0 (zero, omega arith, refl)) ((same y).1 (zero, omega arith, refl)) in
      let by_ys_too : AllPairs R (x ∷ ys) = subst (λ (z : X). AllPairs R (z ∷ ys)) (sym head) by_ys in
      let both : (z : X) → Contains (x ∷ xs) z ↔ Contains (x ∷ ys) z =
      subst (λ (u : X). (z : X) → Contains (x ∷ xs) z ↔ Contains (u ∷ ys) z) (sym head) same in
      let rest : (z : X) → Contains xs z ↔ Contains ys z =
      λ z. (among_rest x z xs ys by_xs by_ys_too (both z).0, among_rest x z ys xs by_ys_too by_xs (both z).1) in
      ap (λ (u : X). u ∷ xs) head
      ∙ ap (λ (zs : List X). y ∷ zs) (one_order xs ys (rest_ordered x xs by_xs) (rest_ordered x ys by_ys_too) rest)
