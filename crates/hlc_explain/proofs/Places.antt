-- Places of numbers fit.
use Rattle.std.proofs.Common.{ℕ, ◌*◌, ◌^◌, ◌<◌, ◌≤◌, arith}
use Rattle.std.proofs.Math.Nat.{mul_comm, mul-le-mul_left}

pub product_fits : (a b : ℕ) → a < 2 ^ 32 → b < 2 ^ 16 → a * b < 2 ^ 49
product_fits a b small few =
    let most : a ≤ 2 ^ 32 = omega arith in
    let le = mul-le-mul_left b most in
    let same = mul_comm a b in
    omega arith
