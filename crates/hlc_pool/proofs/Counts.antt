-- How many places of a directory have a slot.
use Rattle.std.proofs.Common.{◌≡◌, ℕ, suc, ◌+◌, ◌<◌, List, [], ◌∷◌, length, get_or, set, Option, Some, None, is_some, count_by, cond, ap, refl, arith}
use Rattle.std.proofs.lemmas.List.Sums.{sum_by-cons, sum_by-set}

abbrev one : Option ℕ → ℕ
one o = cond (is_some o) 1 0

-- directories with the same slots have as many
pub count_same : (xs ys : List (Option ℕ)) → ((k : ℕ) → get_or xs k None ≡ get_or ys k None)
    → count_by is_some xs ≡ count_by is_some ys
count_same [] [] same = refl
count_same [] (None ∷ ys) same = omega (arith, count_same [] ys (λ k. same (suc k)), sum_by-cons one None ys)
count_same [] (Some y ∷ ys) same = let here : None ≡ Some y = same 0 in absurd (cc)
count_same (None ∷ xs) [] same = omega (arith, count_same xs [] (λ k. same (suc k)), sum_by-cons one None xs)
count_same (Some x ∷ xs) [] same = let here : Some x ≡ None = same 0 in absurd (cc)
count_same (x ∷ xs) (y ∷ ys) same =
    let here : one x ≡ one y = ap one (same 0) in
    omega (arith, here, count_same xs ys (λ k. same (suc k)), sum_by-cons one x xs, sum_by-cons one y ys)

-- a place gets a slot
pub count_with : (directory : List (Option ℕ)) (sent slot : ℕ) → sent < length directory → get_or directory sent None ≡ None
    → count_by is_some (set directory sent (Some slot)) ≡ count_by is_some directory + 1
count_with directory sent slot within none =
    let counted = sum_by-set one directory sent (Some slot) None within in
    let was : one (get_or directory sent None) ≡ 0 = ap one none in
    omega (arith, counted, was)

-- a place loses its slot
pub count_without : (directory : List (Option ℕ)) (sent slot : ℕ) → sent < length directory → get_or directory sent None ≡ Some slot
    → count_by is_some (set directory sent None) + 1 ≡ count_by is_some directory
count_without directory sent slot within some =
    let counted = sum_by-set one directory sent None None within in
    let was : one (get_or directory sent None) ≡ 1 = ap one some in
    omega (arith, counted, was)
