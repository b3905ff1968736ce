-- The next numbers of packed clocks, and what they stand for.
use Rattle.std.proofs.Common.{◌≡◌, ◌≢◌, ℕ, ◌+◌, ◌-◌, ◌*◌, ◌/◌, ◌%◌, ◌^◌, ◌<◌, ◌≤◌, ◌↔◌, arith, inl, inr, max, refl, rules, subst}
use Rattle.std.proofs.lemmas.Bool.{cases_order}
use Rattle.std.proofs.lemmas.Nat.{div-mul-add, mod-mul-add, div_below, le-div, pow_pos}
use Rattle.std.proofs.Math.Nat.{mul-le-mul_left}
use Rattle.std.proofs.Math.Pow.{pow_mono}
use Rattle.hlc_stamp.specs.Order.{IsAtMost, Pair}
use Rattle.hlc_stamp.proofs.OrderLaws.{at_most_below}
use Rattle.hlc_packed.specs.Packed.{IsCounted, first_at, packed, unpacked}
use Rattle.hlc_packed.specs.Steps.{IsAbove, IsAllowedNumber, IsNextTooFar, IsPackedTooFar, IsNotBehind, IsPackedAhead, IsPackedMerge, IsPackedTick}
use Rattle.hlc_packed.proofs.PackedOrder.{quotient_order}

-- the next quotient, where the remainder is the greatest
next_of_full : (d n : ℕ) → 0 < d → n % d ≡ d - 1 → (n + 1) / d ≡ n / d + 1
next_of_full d n some full =
    let parts : (n / d + 1) * d + 0 ≡ n + 1 = omega arith in
    subst (λ (x : ℕ). x / d ≡ n / d + 1) parts (div-mul-add (n / d + 1) d 0 some)

-- and where it isn't
next_of_others : (d n : ℕ) → 0 < d → n % d ≢ d - 1 → (n + 1) / d ≡ n / d
next_of_others d n some other =
    let parts : n / d * d + (n % d + 1) ≡ n + 1 = omega arith in
    let below : n % d + 1 < d = omega arith in
    subst (λ (x : ℕ). x / d ≡ n / d) parts (div-mul-add (n / d) d (n % d + 1) below)

-- the l of the number after one whose c is full
pub l_after_full : (bits n : ℕ) → n % 2 ^ bits ≡ 2 ^ bits - 1 → (n + 1) / 2 ^ bits ≡ n / 2 ^ bits + 1
l_after_full bits n full = next_of_full (2 ^ bits) n (pow_pos bits) full

-- and after one whose c isn't
pub l_after_others : (bits n : ℕ) → n % 2 ^ bits ≢ 2 ^ bits - 1 → (n + 1) / 2 ^ bits ≡ n / 2 ^ bits
l_after_others bits n other = next_of_others (2 ^ bits) n (pow_pos bits) other

-- a number that isn't greater packs a pair that isn't
pub at_most_of_numbers : (bits m n : ℕ) → m ≤ n → IsAtMost (unpacked bits m) (unpacked bits n)
at_most_of_numbers bits m n most = elim (cases_order m n) [
  | inl same ↦ subst (λ (x : ℕ). IsAtMost (unpacked bits m) (unpacked bits x)) same (inr (refl, omega arith))
  | inr (inl lower) ↦ elim ((quotient_order (2 ^ bits) m n (pow_pos bits)).0 lower) [
    | inl below ↦ inl below
    | inr (same_l, below) ↦ inr (same_l, omega arith)
  ]
  | inr (inr greater) ↦ absurd (omega arith)
]

-- the greater number packs the greater pair
above_of_numbers : (bits m n : ℕ) → m < n → IsAbove bits m n
above_of_numbers bits m n below = (quotient_order (2 ^ bits) m n (pow_pos bits)).0 below

-- and the greater pair is packed by the greater number
numbers_of_above : (bits m n : ℕ) → IsAbove bits m n → m < n
numbers_of_above bits m n above = (quotient_order (2 ^ bits) m n (pow_pos bits)).1 above

-- the first number of a reading isn't behind it, nor is a greater one
not_behind_of_first : (bits reading n : ℕ) → first_at bits reading ≤ n → IsNotBehind bits reading n
not_behind_of_first bits reading n most = le-div reading n (2 ^ bits) (pow_pos bits) (omega arith)

-- each number that isn't behind a reading is at least its first
first_of_not_behind : (bits reading n : ℕ) → IsNotBehind bits reading n → first_at bits reading ≤ n
first_of_not_behind bits reading n ahead =
    let some : 0 < 2 ^ bits = pow_pos bits in
    let scaled : 2 ^ bits * reading ≤ 2 ^ bits * (n / 2 ^ bits) = mul-le-mul_left (2 ^ bits) ahead in
    omega (arith, scaled)

-- the greater of the first number of a reading and of the next one is a tick
pub tick_of_greater : (bits old reading new : ℕ) → new ≡ max (first_at bits reading) (old + 1) → IsPackedTick bits old reading new
tick_of_greater bits old reading new greater = record {
  above = above_of_numbers bits old new (omega arith);
  not_behind = not_behind_of_first bits reading new (omega arith);
  least = λ n above ahead.
      let later = numbers_of_above bits old n above in
      let first = first_of_not_behind bits reading n ahead in
      at_most_of_numbers bits new n (omega arith);
}

-- and with the greater of clock and message a merge
pub merge_of_greater : (bits old message reading new : ℕ) → new ≡ max (first_at bits reading) (max old message + 1)
    → IsPackedMerge bits old message reading new
merge_of_greater bits old message reading new greater = record {
  above_old = above_of_numbers bits old new (omega arith);
  above_message = above_of_numbers bits message new (omega arith);
  not_behind = not_behind_of_first bits reading new (omega arith);
  least = λ n above above_message ahead.
      let later = numbers_of_above bits old n above in
      let later_than_message = numbers_of_above bits message n above_message in
      let first = first_of_not_behind bits reading n ahead in
      at_most_of_numbers bits new n (omega arith);
}

-- a pair that is packed is unpacked as it was
pub unpacked_packed : (bits : ℕ) (p : Pair) → IsCounted bits p → unpacked bits (packed bits p) ≡ p
unpacked_packed bits p counted = search (rules, div-mul-add, mod-mul-add)

-- with a bit for c or more, there is room for one more l
pub l_has_next : (bits n : ℕ) → 1 ≤ bits → n < 2 ^ 64 → n / 2 ^ bits + 1 < 2 ^ 64
l_has_next bits n some below =
    let two : 2 ≤ 2 ^ bits = pow_mono {i = 1} {j = bits} some in
    let scaled : 2 ^ 63 * 2 ≤ 2 ^ 63 * 2 ^ bits = mul-le-mul_left (2 ^ 63) two in
    let quotient : n / 2 ^ bits < 2 ^ 63 = div_below n (2 ^ bits) (2 ^ 63) (pow_pos bits) (omega (arith, scaled)) in
    omega arith

-- a tick of the greater of clock and message is the merge of both
pub merge_of_tick : (bits old message reading new : ℕ) → IsPackedTick bits (max old message) reading new
    → IsPackedMerge bits old message reading new
merge_of_tick bits old message reading new tick =
    let later = numbers_of_above bits (max old message) new tick.above in
    record {
      above_old = above_of_numbers bits old new (omega arith);
      above_message = above_of_numbers bits message new (omega arith);
      not_behind = tick.not_behind;
      least = λ n above above_message ahead.
          let after_old = numbers_of_above bits old n above in
          let after_message = numbers_of_above bits message n above_message in
          tick.least n (above_of_numbers bits (max old message) n (omega arith)) ahead;
    }

-- the numbers below the first of the next l are those whose l is at most this
pub below_next_first : (bits l n : ℕ) → (n < first_at bits (l + 1)) ↔ ((unpacked bits n).l ≤ l)
below_next_first bits l n = (
  λ below. let quotient = div_below n (2 ^ bits) (l + 1) (pow_pos bits) (omega arith) in omega arith,
  λ most.
      let some : 0 < 2 ^ bits = pow_pos bits in
      let scaled : 2 ^ bits * (n / 2 ^ bits) ≤ 2 ^ bits * l = mul-le-mul_left (2 ^ bits) most in
      omega (arith, scaled),
)

-- an event may have a lower number exactly if it may have the one directly before
pub ahead_of_before : (bits old message reading before stamp : ℕ) → stamp ≡ before + 1
    → IsAllowedNumber bits old message reading before ↔ IsPackedAhead bits old message reading stamp
ahead_of_before bits old message reading before stamp next = (
  λ allowed. (before, allowed, above_of_numbers bits before stamp (omega arith)),
  λ ahead.
      let n = ahead.0 in
      let after_old = numbers_of_above bits old n ahead.1.above_old in
      let after_message = numbers_of_above bits message n ahead.1.above_message in
      let first = first_of_not_behind bits reading n ahead.1.not_behind in
      let lower = numbers_of_above bits n stamp ahead.2 in
      record {
        above_old = above_of_numbers bits old before (omega arith);
        above_message = above_of_numbers bits message before (omega arith);
        not_behind = not_behind_of_first bits reading before (omega arith);
      },
)

-- no number is lower than 0
pub none_before_0 : (bits old message reading stamp : ℕ) → (1 ≤ stamp → ⊥) → IsPackedAhead bits old message reading stamp → ⊥
none_before_0 bits old message reading stamp zero ahead = let lower = numbers_of_above bits ahead.0 stamp ahead.2 in zero (omega arith)

-- the greater of the first number of a reading and of another is too far ahead only if the other is
pub greater_within_limit : (bits reading m new limit : ℕ) → new ≡ max (first_at bits reading) m
    → (IsPackedTooFar bits m reading limit → ⊥) → IsPackedTooFar bits new reading limit → ⊥
greater_within_limit bits reading m new limit greater within far =
    let its_l : first_at bits reading / 2 ^ bits ≡ reading = div-mul-add reading (2 ^ bits) 0 (pow_pos bits) in
    elim (cases_order (first_at bits reading) m) [
      | inl same ↦
          let is : new ≡ m = omega arith in within (subst (λ (x : ℕ). IsPackedTooFar bits x reading limit) is far)
      | inr (inl lower) ↦
          let is : new ≡ m = omega arith in within (subst (λ (x : ℕ). IsPackedTooFar bits x reading limit) is far)
      | inr (inr above) ↦
          let is : new ≡ first_at bits reading = omega arith in
          let its_far : IsPackedTooFar bits (first_at bits reading) reading limit =
          subst (λ (x : ℕ). IsPackedTooFar bits x reading limit) is far in
          omega (arith, its_l, its_far)
    ]

-- the number after the greater of two is too far ahead only if the one after either is
pub next_within_limit : (bits reading old message limit : ℕ) → (IsNextTooFar bits old reading limit → ⊥)
    → (IsNextTooFar bits message reading limit → ⊥) → IsNextTooFar bits (max old message) reading limit → ⊥
next_within_limit bits reading old message limit within message_within far =
    elim (cases_order old message) [
      | inl same ↦
          let is : max old message ≡ old = omega arith in within (subst (λ (x : ℕ). IsNextTooFar bits x reading limit) is far)
      | inr (inl lower) ↦
          let is : max old message ≡ message = omega arith in
          message_within (subst (λ (x : ℕ). IsNextTooFar bits x reading limit) is far)
      | inr (inr above) ↦
          let is : max old message ≡ old = omega arith in within (subst (λ (x : ℕ). IsNextTooFar bits x reading limit) is far)
    ]

-- a merge is what may be had and isn't ahead
pub merge_not_ahead : (bits old message reading n : ℕ) → IsPackedMerge bits old message reading n
    ↔ (IsAllowedNumber bits old message reading n × (IsPackedAhead bits old message reading n → ⊥))
merge_not_ahead bits old message reading n = (
  λ merge. (
    record { above_old = merge.above_old; above_message = merge.above_message; not_behind = merge.not_behind },
    λ ahead.
        let lower = ahead.1 in
        let least = merge.least ahead.0 lower.above_old lower.above_message lower.not_behind in
        let below_itself = at_most_below (unpacked bits n) (unpacked bits ahead.0) (unpacked bits n) least ahead.2 in
        let itself = numbers_of_above bits n n below_itself in
        omega arith,
  ),
  λ found. record {
    above_old = found.0.above_old;
    above_message = found.0.above_message;
    not_behind = found.0.not_behind;
    least = λ m above_old above_message not_behind.
        elim (cases_order n m) [
          | inl same ↦ at_most_of_numbers bits n m (omega arith)
          | inr (inl lower) ↦ at_most_of_numbers bits n m (omega arith)
          | inr (inr greater) ↦
              let allowed : IsAllowedNumber bits old message reading m =
              record { above_old = above_old; above_message = above_message; not_behind = not_behind } in
              absurd (found.1 (m, allowed, above_of_numbers bits m n greater))
        ];
  },
)
