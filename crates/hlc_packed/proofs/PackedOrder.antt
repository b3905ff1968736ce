-- Packed numbers have the order of what they pack, and the next number what comes next.
use Rattle.std.proofs.Common.{◌≡◌, ℕ, ◌+◌, ◌*◌, ◌/◌, ◌%◌, ◌<◌, ◌≤◌, ◌⊎◌, ◌↔◌, arith, inl, inr}
use Rattle.std.proofs.lemmas.Bool.{cases_order}
use Rattle.std.proofs.Math.Nat.{mul-le-mul_left}

-- the greater quotient is that of the greater number
greater_quotient : (d m n : ℕ) → 0 < d → m / d < n / d → m < n
greater_quotient d m n some below =
    let next : m / d + 1 ≤ n / d = omega arith in
    let scaled : d * (m / d + 1) ≤ d * (n / d) = mul-le-mul_left d next in
    omega (arith, scaled)

-- at equal quotients the greater remainder is that of the greater number
greater_remainder : (d m n : ℕ) → 0 < d → m / d ≡ n / d → m % d < n % d → m < n
greater_remainder d m n some same below =
    let left : d * (m / d) ≤ d * (n / d) = mul-le-mul_left d (omega arith) in
    let right : d * (n / d) ≤ d * (m / d) = mul-le-mul_left d (omega arith) in
    omega (arith, left, right)

-- the order of numbers is that of their quotients, and then of their remainders
pub quotient_order : (d m n : ℕ) → 0 < d → (m < n) ↔ ((m / d < n / d) ⊎ ((m / d ≡ n / d) × (m % d < n % d)))
quotient_order d m n some = (
  λ below.
      elim (cases_order (m / d) (n / d)) [
        | inl same ↦
            let left : d * (m / d) ≤ d * (n / d) = mul-le-mul_left d (omega arith) in
            let right : d * (n / d) ≤ d * (m / d) = mul-le-mul_left d (omega arith) in
            inr (same, omega (arith, left, right))
        | inr (inl lower) ↦ inl lower
        | inr (inr greater) ↦ absurd (let above = greater_quotient d n m some greater in omega arith)
      ],
  λ order. elim order [
    | inl lower ↦ greater_quotient d m n some lower
    | inr (same, lower) ↦ greater_remainder d m n some same lower
  ],
)
