-- What one digit more makes of a number.
use Rattle.std.proofs.Common.{◌≡◌, ℕ, ◌+◌, ◌-◌, ◌*◌, ◌^◌, ◌<◌, ◌≤◌, false, ◌&&◌, List, [], ◌∷◌, Option, Some, None, arith, lit<, refl, inl, inr, length, drop}
use Rattle.std.specs.Prelude.{nat_lt, nat_le, if◌then◌else◌}
use Rattle.std.proofs.lemmas.Bool.{cases_Bool}
use Rattle.std.proofs.Math.Nat.{pow-le-pow_right}
use Rattle.std.proofs.lemmas.Grind.{common_steps}
use Rattle.std.proofs.lemmas.Bool.Decides.{nat_tests}
use Rattle.std.specs.Str.{all_ascii_digits}
use Rattle.hlc_csv.specs.Number.{number_of, value_after, with_digit}

-- digits that write a number of 64 bits, after those of n
abbrev pub number_after : ℕ → List ℕ → Option ℕ
number_after n ds = if all_ascii_digits ds && nat_lt (value_after n ds) (2 ^ 64) then Some (value_after n ds) else None

-- a value only grows
pub value_after-le : (n : ℕ) (ds : List ℕ) → n ≤ value_after n ds
value_after-le n [] = omega arith
value_after-le n (d ∷ ds) = let h = value_after-le (n * 10 + (d - 48)) ds in omega (arith, h)

pub number_after-large : (n : ℕ) (ds : List ℕ) → 2 ^ 64 ≤ n → number_after n ds ≡ None
number_after-large n ds h = let g = value_after-le n ds in grind (arith, nat_tests, common_steps, g)

pub number_after-no_digit : (n d : ℕ) (ds : List ℕ) → (nat_le 48 d && nat_le d 57) ≡ false → number_after n (d ∷ ds) ≡ None
number_after-no_digit n d ds a = rw a refl

-- there is no number if one more digit gives none
pub number_after-none : (n d : ℕ) (ds : List ℕ) → with_digit n d ≡ None → number_after n (d ∷ ds) ≡ None
number_after-none n d ds e =
    let next = n * 10 + (d - 48) in
    elim (cases_Bool (nat_le 48 d && nat_le d 57)) [
      | inl digit ↦ elim (cases_Bool (nat_lt next (2 ^ 64))) [
        | inl small ↦ let h : ◌≡◌ {A = Option ℕ} (Some next) None = rw (digit, small) at e in cc h
        | inr large ↦ let many : 2 ^ 64 ≤ next = grind (arith, nat_tests, large) in rw digit (number_after-large next ds many)
      ]
      | inr other ↦ number_after-no_digit n d ds other
    ]

-- a number of a length that is allowed
pub number_of-sized : (ds : List ℕ) → 1 ≤ length ds → length ds ≤ 20 → number_of ds ≡ number_after 0 ds
number_of-sized ds a b = grind (arith, nat_tests, common_steps, a, b)

-- no digit is left
pub number_after-end : (n i : ℕ) (ds : List ℕ) → n < 2 ^ 64 → length ds ≤ i → number_after n (drop i ds) ≡ Some n
number_after-end n i ds a b = let e : drop i ds ≡ [] = grind (arith, common_steps, b) in rw e (grind (arith, nat_tests, a))

-- the number of fewer than 19 digits, to which one more can be added
pub below_power : (n i : ℕ) → n < 10 ^ i → i < 19 → n < 10 ^ 18
below_power n i below few =
    let most : i ≤ 18 = omega arith in
    let power : 10 ^ i ≤ 10 ^ 18 = pow-le-pow_right (lit< tt) most in
    omega (arith, below, power)
