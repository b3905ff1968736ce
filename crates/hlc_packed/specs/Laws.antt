-- What packing keeps, and what the steps of packed clocks are among pairs.
use Rattle.std.specs.Prelude.{◌≡◌, ℕ, ◌+◌, ◌-◌, ◌^◌, ◌<◌, ◌≤◌, ◌↔◌, max}
use Rattle.hlc_stamp.specs.Order.{IsAtMost, IsBelow, Pair}
use Rattle.hlc_packed.specs.Packed.{IsCounted, packed, unpacked}
use Rattle.hlc_packed.specs.Steps.{IsAllowedNumber, IsPackedAhead, IsPackedMerge, IsPackedTick, bound_of}

-- a number is packed again as it was, and a pair unpacked as it was
abbrev pub PackingLosesNothing : Type 0
PackingLosesNothing =
    ((bits n : ℕ) → packed bits (unpacked bits n) ≡ n) × ((bits : ℕ) (p : Pair) → IsCounted bits p → unpacked bits (packed bits p) ≡ p)

-- the order of packed numbers is that of the pairs
abbrev pub PackingKeepsOrder : Type 0
PackingKeepsOrder = (bits m n : ℕ) → (m < n) ↔ IsBelow (unpacked bits m) (unpacked bits n)

-- after the greatest c of an l comes the next l, with a c of 0
abbrev pub NextAfterFull : Type 0
NextAfterFull = (bits l : ℕ) → packed bits (record { l = l; c = 2 ^ bits - 1 }) + 1 ≡ packed bits (record { l = l + 1; c = 0 })

-- of all pairs that can be packed, a tick's is the least that is above the old one and not behind the reading
abbrev pub TicksAreLeastPairs : Type 0
TicksAreLeastPairs = (bits old reading new : ℕ) → IsPackedTick bits old reading new
    → (p : Pair) → IsCounted bits p → IsBelow (unpacked bits old) p → reading ≤ p.l → IsAtMost (unpacked bits new) p

-- of all pairs that can be packed, a merge's is the least that is above the old one and the message's, and not behind the reading
abbrev pub MergesAreLeastPairs : Type 0
MergesAreLeastPairs = (bits old message reading new : ℕ) → IsPackedMerge bits old message reading new
    → (p : Pair) → IsCounted bits p → IsBelow (unpacked bits old) p → IsBelow (unpacked bits message) p → reading ≤ p.l
    → IsAtMost (unpacked bits new) p

-- a tick of a clock that has seen a message is the merge of the message
abbrev pub TicksAfterMessagesAreMerges : Type 0
TicksAfterMessagesAreMerges = (bits old message reading new : ℕ)
    → IsPackedTick bits (max old message) reading new → IsPackedMerge bits old message reading new

-- the merge is the number that an event may have, and that isn't ahead
abbrev pub MergesAreNotAhead : Type 0
MergesAreNotAhead = (bits old message reading n : ℕ)
    → IsPackedMerge bits old message reading n ↔ (IsAllowedNumber bits old message reading n × ¬ IsPackedAhead bits old message reading n)

-- below a bound are the numbers whose l is at most the window past the clock's, and no others
abbrev pub BoundsCoverWindows : Type 0
BoundsCoverWindows = (bits clock window n : ℕ) → (n < bound_of bits clock window) ↔ ((unpacked bits n).l ≤ (unpacked bits clock).l + window)
