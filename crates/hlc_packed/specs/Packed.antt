-- Stamps packed into one number.
use Rattle.std.specs.Prelude.{ℕ, ◌+◌, ◌*◌, ◌/◌, ◌%◌, ◌^◌, ◌<◌, ◌≤◌}
use Rattle.hlc_stamp.specs.Order.{Pair}

-- c may have this many bits
abbrev pub CanCount : ℕ → Type 0
CanCount bits = (1 ≤ bits) × (bits ≤ 32)

-- the pair that a number packs: c is its low bits, and l the others
abbrev pub unpacked : (bits n : ℕ) → Pair
unpacked bits n = record { l = n / 2 ^ bits; c = n % 2 ^ bits }

-- the number that packs a pair
abbrev pub packed : (bits : ℕ) → Pair → ℕ
packed bits p = p.l * 2 ^ bits + p.c

-- the c of a pair has so many bits at most
abbrev pub IsCounted : (bits : ℕ) → Pair → Type 0
IsCounted bits p = p.c < 2 ^ bits

-- a pair can be packed: its c has so many bits at most, and the number 64
abbrev pub IsPackable : (bits : ℕ) → Pair → Type 0
IsPackable bits p = IsCounted bits p × (packed bits p < 2 ^ 64)

-- the first number whose l is this
abbrev pub first_at : (bits l : ℕ) → ℕ
first_at bits l = packed bits (record { l = l; c = 0 })
