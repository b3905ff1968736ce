-- The first digits that the numbers of a log share.
use Rattle.std.proofs.Common.{◌≡◌, ◌∙◌, ℕ, zero, suc, ◌+◌, ◌-◌, ◌<◌, ◌≤◌, ◌++◌, inl, inr, Bool, true, false, List, [], ◌∷◌, ap, arith, decimal, drop, length, min, refl, subst, sym, take}
use Rattle.std.specs.Prelude.{◌==◌, if◌then◌else◌, nat_lt}
use Rattle.std.proofs.lemmas.Bool.{cases_eq, eq-eqb, ne_eqb}
use Rattle.std.proofs.lemmas.List.{length-drop, take-append-drop}
use Rattle.hlc_diagram.specs.Numbers.{digits_of}
use Rattle.hlc_svg.specs.declared.numbers.FirstDigits.{FirstDigits}
use Rattle.hlc_ordered_log.specs.InOrder.{LogInOrder, event_in_order}
use Rattle.hlc_log_picture.specs.Drawn.{event_of_row}
use Rattle.hlc_log_picture.specs.Laws.{NoDigitIsLost}
use Rattle.hlc_log_picture.specs.SharedDigits.{IsJoined, first_digits_of, first_l, shared_by, shared_bytes, shared_digits, shared_with}
use Rattle.hlc_log_picture.specs.declared.shared_digits.TheConstants.{LEAST_HEAD, LEAST_REST}

if_yes : (b : Bool) (m n : ℕ) → b ≡ true → (if b then m else n) ≡ m
if_yes true m n is = refl
if_yes false m n is = absurd (cc)

if_no : (b : Bool) (m n : ℕ) → b ≡ false → (if b then m else n) ≡ n
if_no true m n is = absurd (cc)
if_no false m n is = refl

none_or : (b : Bool) (count bound : ℕ) → count ≤ bound → (if b then 0 else count) ≤ bound
none_or true count bound le = omega arith
none_or false count bound le = le

min_first : (a b : ℕ) → min a b ≤ a
min_first a b = omega arith

min_second : (a b : ℕ) → min a b ≤ b
min_second a b = omega arith

at_most : (a b c : ℕ) → a ≤ b → b ≤ c → a ≤ c
at_most a b c le more = omega arith

-- what two texts share is the same in both
take_shared : (n : ℕ) (one other : List ℕ) → n ≤ shared_bytes one other → take n one ≡ take n other
take_shared zero one other le = refl
take_shared (suc n) [] other le = absurd (omega arith)
take_shared (suc n) (x ∷ one) [] le = absurd (omega arith)
take_shared (suc n) (x ∷ one) (y ∷ other) le = elim (cases_eq x y) [
  | inl same ↦
      let more : suc n ≤ shared_bytes one other + 1 =
      subst (λ (m : ℕ). suc n ≤ m) (if_yes (x == y) (shared_bytes one other + 1) 0 (eq-eqb x y same)) le in
      let rest : n ≤ shared_bytes one other = omega (arith, more) in
      ap (λ (t : List ℕ). x ∷ t) (take_shared n one other rest) ∙ ap (λ (z : ℕ). z ∷ take n other) same
  | inr differ ↦
      let none : suc n ≤ 0 = subst (λ (m : ℕ). suc n ≤ m) (if_no (x == y) (shared_bytes one other + 1) 0 (ne_eqb x y differ)) le in
      absurd (omega (arith, none))
]

module _ (of number : ℕ) where
  same_digits : digits_of of ≡ digits_of number → shared_digits of number ≡ shared_bytes (decimal of) (decimal number)
  same_digits same =
      if_yes (digits_of of == digits_of number) (shared_bytes (decimal of) (decimal number)) 0 (eq-eqb (digits_of of) (digits_of number) same)

  other_digits : (digits_of of ≡ digits_of number → ⊥) → shared_digits of number ≡ 0
  other_digits differ =
      if_no (digits_of of == digits_of number) (shared_bytes (decimal of) (decimal number)) 0 (ne_eqb (digits_of of) (digits_of number) differ)

  begins : (count : ℕ) → count ≤ shared_digits of number → take count (decimal of) ≡ take count (decimal number)
  begins count le = elim (cases_eq (digits_of of) (digits_of number)) [
    | inl same ↦ take_shared count (decimal of) (decimal number) (subst (λ (m : ℕ). count ≤ m) (same_digits same) le)
    | inr differ ↦
        let none : count ≤ 0 = subst (λ (m : ℕ). count ≤ m) (other_digits differ) le in
        let zero : count ≡ 0 = omega (arith, none) in
        ap (λ (n : ℕ). take n (decimal of)) zero ∙ sym (ap (λ (n : ℕ). take n (decimal number)) zero)
  ]

  as_long : (count : ℕ) → count ≤ shared_digits of number → 0 < count → digits_of number ≡ digits_of of
  as_long count le some = elim (cases_eq (digits_of of) (digits_of number)) [
    | inl same ↦ sym same
    | inr differ ↦
        let none : count ≤ 0 = subst (λ (m : ℕ). count ≤ m) (other_digits differ) le in
        absurd (omega (arith, none))
  ]

-- a number that shares what stands in the headings is all there
joined : (first : FirstDigits) (number : ℕ) → first.count ≤ shared_digits first.of number → first.count ≤ digits_of first.of - LEAST_REST
    → IsJoined first number
joined first number shared rest = record {
  all = ap (λ (t : List ℕ). t ++ drop first.count (decimal number)) (begins first.of number first.count shared) ∙ take-append-drop first.count (decimal number);
  as_long = λ some. as_long first.of number first.count shared some;
  left = λ some.
      let same = as_long first.of number first.count shared some in
      let size = length-drop first.count (decimal number) in
      omega arith;
}

-- what all numbers share, those of each event do
shared_by_each : (log : LogInOrder) (number n k : ℕ) → k < n → shared_by log number n ≤ shared_with number (event_in_order log.events log.order k)
shared_by_each log number zero k lt = absurd (omega arith)
shared_by_each log number (suc n) k lt = elim (cases_eq k n) [
  | inl last ↦
      subst (λ (p : ℕ). shared_by log number (suc n) ≤ shared_with number (event_in_order log.events log.order p)) (sym last)
      (min_second (shared_by log number n) (shared_with number (event_in_order log.events log.order n)))
  | inr before ↦
      at_most (shared_by log number (suc n)) (shared_by log number n) (shared_with number (event_in_order log.events log.order k))
      (min_first (shared_by log number n) (shared_with number (event_in_order log.events log.order n))) (shared_by_each log number n k (omega (arith, before)))
]

pub no_digit_is_lost : NoDigitIsLost
no_digit_is_lost drawn k exists =
    let log = drawn.log in
    let of = first_l log in
    let first = first_digits_of log in
    let event = event_of_row drawn k in
    let shared = shared_by log of (length log.events) in
    let most : shared ≤ shared_with of event = shared_by_each log of (length log.events) k exists in
    let count = min shared (digits_of of - LEAST_REST) in
    let few : first.count ≤ count = none_or (nat_lt count LEAST_HEAD) count count (omega arith) in
    let rest = at_most first.count count (digits_of of - LEAST_REST) few (min_second shared (digits_of of - LEAST_REST)) in
    let each = at_most first.count shared (shared_with of event) (at_most first.count count shared few (min_first shared (digits_of of - LEAST_REST))) most in
    let stamp = shared_digits of event.stamp.l in
    let reading = shared_digits of event.reading in (
      joined first event.stamp.l (at_most first.count (shared_with of event) stamp each (min_first stamp reading)) rest,
      joined first event.reading (at_most first.count (shared_with of event) reading each (min_second stamp reading)) rest,
    )
