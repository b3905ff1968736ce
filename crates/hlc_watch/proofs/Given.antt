-- A list of which the first items are given something.
use Rattle.std.proofs.Common.{◌≡◌, ◌∙◌, ◌++◌, ℕ, zero, suc, ◌+◌, ◌<◌, ◌≤◌, List, [], ◌∷◌, length, map, take, drop, get_or, set, arith, refl, ap}

module _ {X : Type 0} (f : X → X) where
  abbrev given : List X → ℕ → List X
  given xs i = map f (take i xs) ++ drop i xs

  next_given : (xs : List X) (i : ℕ) (d : X) → i < length xs → set (given xs i) i (f (get_or (given xs i) i d)) ≡ given xs (suc i)
  next_given [] i d less = absurd (omega arith)
  next_given (x ∷ xs) zero d less = refl
  next_given (x ∷ xs) (suc i) d less = ap (λ rest. f x ∷ rest) (next_given xs i d (omega arith))

  pub one_given : (xs : List X) (i : ℕ) (d : X) → i < length xs → set (given xs i) i (f (get_or (given xs i) i d)) ≡ given xs (i + 1)
  one_given xs i d less = let same : suc i ≡ i + 1 = omega arith in next_given xs i d less ∙ ap (given xs) same

  pub all_given : (xs : List X) (i : ℕ) → length xs ≤ i → given xs i ≡ map f xs
  all_given [] zero all = refl
  all_given [] (suc i) all = refl
  all_given (x ∷ xs) zero all = absurd (omega arith)
  all_given (x ∷ xs) (suc i) all = ap (λ rest. f x ∷ rest) (all_given xs i (omega arith))
