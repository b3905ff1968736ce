-- The order of pairs.
use Rattle.std.proofs.Common.{◌≡◌, ◌≢◌, ℕ, ◌≤◌, ◌⊎◌, inl, inr, arith, ap}
use Rattle.std.proofs.lemmas.Bool.{cases_eq}
use Rattle.hlc_stamp.specs.Order.{IsAtMost, IsBelow, Pair}

pub same_parts : (p q : Pair) → p.l ≡ q.l → p.c ≡ q.c → p ≡ q
same_parts p q l c =
    let parts : (p.l, p.c) ≡ (q.l, q.c) = cc in
    ap (λ (x : ℕ × ℕ). let r : Pair = record { l = x.0; c = x.1 } in r) parts

same_l_and_c : (p q : Pair) → IsAtMost p q → IsAtMost q p → (p.l ≡ q.l) × (p.c ≡ q.c)
same_l_and_c p q a b = grind arith

pub at_most_antisymm : (p q : Pair) → IsAtMost p q → IsAtMost q p → p ≡ q
at_most_antisymm p q a b = let same = same_l_and_c p q a b in same_parts p q same.0 same.1

pub same_pair_or_not : (p q : Pair) → (p ≡ q) ⊎ (p ≢ q)
same_pair_or_not p q =
    elim (cases_eq p.l q.l) [
      | inr ne ↦ inr (λ h. ne (ap (λ (x : Pair). x.l) h))
      | inl same ↦ elim (cases_eq p.c q.c) [ inr ne ↦ inr (λ h. ne (ap (λ (x : Pair). x.c) h)) | inl also ↦ inl (same_parts p q same also) ]
    ]

pub below_at_most : (p q r : Pair) → IsBelow p q → IsAtMost q r → IsBelow p r
below_at_most p q r a b = grind arith

pub l_of_at_most : (n : ℕ) (p q : Pair) → n ≤ p.l → IsAtMost p q → n ≤ q.l
l_of_at_most n p q h a = grind arith

pub reading_at_most : (n : ℕ) (q : Pair) → n ≤ q.l → IsAtMost (record { l = n; c = 0 }) q
reading_at_most n q h = grind arith
