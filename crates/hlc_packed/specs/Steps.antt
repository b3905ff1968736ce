-- What comes after a number that packs a stamp.
use Rattle.std.specs.Prelude.{ℕ, ◌+◌, ◌-◌, ◌^◌, ◌<◌, ◌≤◌}
use Rattle.hlc_stamp.specs.Order.{IsAtMost, IsBelow}
use Rattle.hlc_packed.specs.Packed.{first_at, unpacked}

-- a clock of packed stamps may read this: it isn't 0, and some number has it as its l
pub record IsPackedReading (bits reading : ℕ) : Type 0 where
  pub positive : 1 ≤ reading
  pub packable : first_at bits reading < 2 ^ 64

-- a number packs a stamp that is above the one that another packs
abbrev pub IsAbove : (bits old n : ℕ) → Type 0
IsAbove bits old n = IsBelow (unpacked bits old) (unpacked bits n)

-- a number packs a stamp whose l isn't behind the reading
abbrev pub IsNotBehind : (bits reading n : ℕ) → Type 0
IsNotBehind bits reading n = reading ≤ (unpacked bits n).l

-- of all numbers, the one whose stamp is the least that is above the old one and not behind the reading
pub record IsPackedTick (bits old reading new : ℕ) : Type 0 where
  pub above : IsAbove bits old new
  pub not_behind : IsNotBehind bits reading new
  pub least : (n : ℕ) → IsAbove bits old n → IsNotBehind bits reading n → IsAtMost (unpacked bits new) (unpacked bits n)

-- of all numbers, the one whose stamp is the least that is above the old one and the message's, and not behind the reading
pub record IsPackedMerge (bits old message reading new : ℕ) : Type 0 where
  pub above_old : IsAbove bits old new
  pub above_message : IsAbove bits message new
  pub not_behind : IsNotBehind bits reading new
  pub least : (n : ℕ) → IsAbove bits old n → IsAbove bits message n → IsNotBehind bits reading n
      → IsAtMost (unpacked bits new) (unpacked bits n)

-- the l of a number is ahead of the reading by more than the limit
abbrev pub IsPackedTooFar : (bits n reading limit : ℕ) → Type 0
IsPackedTooFar bits n reading limit = reading + limit < (unpacked bits n).l

-- the l of the number after this one is ahead of the reading by more than the limit, and so that of each number above this one
abbrev pub IsNextTooFar : (bits n reading limit : ℕ) → Type 0
IsNextTooFar bits n reading limit = IsPackedTooFar bits (n + 1) reading limit

-- a number isn't the greatest of 64 bits
abbrev pub HasNext : ℕ → Type 0
HasNext n = n < 2 ^ 64 - 1

-- an event may have this number: its stamp is above the old one and the message's, and not behind the reading
pub record IsAllowedNumber (bits old message reading n : ℕ) : Type 0 where
  pub above_old : IsAbove bits old n
  pub above_message : IsAbove bits message n
  pub not_behind : IsNotBehind bits reading n

-- an event with this number may have a lower one
abbrev pub IsPackedAhead : (bits old message reading stamp : ℕ) → Type 0
IsPackedAhead bits old message reading stamp = (n : ℕ) × IsAllowedNumber bits old message reading n × IsAbove bits n stamp

-- the first number whose l is more than the window past a number's
abbrev pub bound_of : (bits n window : ℕ) → ℕ
bound_of bits n window = first_at bits ((unpacked bits n).l + window + 1)
