-- A number is read back from its shortest decimal.
use Rattle.std.proofs.Common.{◌≡◌, ◌∙◌, ℕ, ◌+◌, ◌-◌, ◌*◌, ◌/◌, ◌%◌, ◌^◌, ◌<◌, ◌≤◌, Bool, true, false, ◌&&◌, List, [], ◌∷◌, ◌++◌, Some, arith, decimal, length, refl, ap}
use Rattle.std.specs.Prelude.{nat_le, nat_lt}
use Rattle.std.specs.Char.{is_ascii_digit}
use Rattle.std.specs.Str.{all_ascii_digits}
use Rattle.std.proofs.lemmas.Bool.Decides.{nat_tests}
use Rattle.std.proofs.lemmas.Fmt.{decimal_by_steps, decimal_nonempty, length-decimal-le}
use Rattle.hlc_csv.specs.Number.{number_of, number_up_to, value_after}

-- one digit more at the end
value_after-push : (n : ℕ) (ds : List ℕ) (d : ℕ) → value_after n (ds ++ d ∷ []) ≡ value_after n ds * 10 + (d - 48)
value_after-push n [] d = refl
value_after-push n (e ∷ ds) d = value_after-push (n * 10 + (e - 48)) ds d

and-both : (a b c : Bool) → (b ≡ true → c ≡ true) → (a && b) ≡ true → (a && c) ≡ true
and-both true b c h both = h both
and-both false b c h both = absurd (cc)

all_digits-push : (ds : List ℕ) (d : ℕ) → is_ascii_digit d ≡ true → all_ascii_digits ds ≡ true → all_ascii_digits (ds ++ d ∷ []) ≡ true
all_digits-push [] d digit all = rw digit refl
all_digits-push (e ∷ ds) d digit all =
    and-both (is_ascii_digit e) (all_ascii_digits ds) (all_ascii_digits (ds ++ d ∷ [])) (all_digits-push ds d digit) all

digit_is : (n : ℕ) → n < 10 → is_ascii_digit (48 + n) ≡ true
digit_is n lt = grind (arith, nat_tests, lt)

-- what is read of a number's decimal
abbrev IsDecimalOf : ℕ → List ℕ → Type 0
IsDecimalOf n ds = (all_ascii_digits ds ≡ true) × (value_after 0 ds ≡ n)

is_decimal_of-one_digit : (n : ℕ) → n < 10 → IsDecimalOf n ((48 + n) ∷ [])
is_decimal_of-one_digit n lt = (rw (digit_is n lt) refl, omega arith)

is_decimal_of-more_digits : (n : ℕ) (ds : List ℕ) → 10 ≤ n → IsDecimalOf (n / 10) ds → IsDecimalOf n (ds ++ (48 + n % 10) ∷ [])
is_decimal_of-more_digits n ds many h = (
  all_digits-push ds (48 + n % 10) (digit_is (n % 10) (omega arith)) h.0,
  value_after-push 0 ds (48 + n % 10) ∙ ap (λ (v : ℕ). v * 10 + (48 + n % 10 - 48)) h.1 ∙ omega arith,
)

is_decimal_of-decimal : (n : ℕ) → n < 2 ^ 64 → IsDecimalOf n (decimal n)
is_decimal_of-decimal = decimal_by_steps IsDecimalOf is_decimal_of-one_digit is_decimal_of-more_digits

-- a number of 64 bits is written in digits
pub all_digits-decimal : (n : ℕ) → n < 2 ^ 64 → all_ascii_digits (decimal n) ≡ true
all_digits-decimal n small = (is_decimal_of-decimal n small).0

-- it is read back
pub number_of-decimal : (n : ℕ) → n < 2 ^ 64 → number_of (decimal n) ≡ Some n
number_of-decimal n small =
    let h = is_decimal_of-decimal n small in
    let some = decimal_nonempty n small in
    let few = length-decimal-le 20 n (omega arith) (omega arith) small in
    let a : nat_le 1 (length (decimal n)) ≡ true = grind (arith, nat_tests, some) in
    let b : nat_le (length (decimal n)) 20 ≡ true = grind (arith, nat_tests, few) in
    let c : nat_lt n (2 ^ 64) ≡ true = grind (arith, nat_tests, small) in
    rw (a, b, h.0, h.1, c) refl

-- so is one of a narrower type
pub number_up_to-decimal : (most n : ℕ) → n ≤ most → most < 2 ^ 64 → number_up_to most (decimal n) ≡ Some n
number_up_to-decimal most n le small = rw (number_of-decimal n (omega arith)) (ap (λ (m : ℕ). Some m) (omega arith))
