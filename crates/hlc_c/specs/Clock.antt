-- What a clock that is called from C answers.
use Rattle.std.specs.Prelude.{◌≡◌, ◌⊎◌, ℕ, ◌+◌, ◌-◌, ◌^◌, ◌<◌, ◌≤◌, max}
use Rattle.hlc_stamp.specs.Order.{IsAtMost, IsBelow, Pair}
use Rattle.hlc_stamp.specs.declared.limits.TheConstants.{MAX_READING}
use Rattle.hlc_c.specs.Stamp.{pair_of}
use Rattle.hlc_c.specs.declared.stamp.CStamp.{CStamp}

-- a clock may read this
pub record IsReading (reading : ℕ) : Type 0 where
  pub positive : 1 ≤ reading
  pub in_range : reading ≤ MAX_READING

-- an event of this l can be counted after a stamp: the stamp has another l, or its counter isn't full
abbrev pub CanCountAt : (stamp : CStamp) (l : ℕ) → Type 0
CanCountAt stamp l = stamp.l ≡ l → stamp.c < 2 ^ 32 - 1

-- the clock's next event can be counted
abbrev pub CanTick : (clock : CStamp) (reading : ℕ) → Type 0
CanTick clock reading = CanCountAt clock (max clock.l reading)

-- the delivery of a message can be counted
abbrev pub CanMerge : (clock message : CStamp) (reading : ℕ) → Type 0
CanMerge clock message reading =
    CanCountAt clock (max (max clock.l message.l) reading) × CanCountAt message (max (max clock.l message.l) reading)

-- an l is ahead of the reading by more than the limit
abbrev pub IsTooFar : (l reading limit : ℕ) → Type 0
IsTooFar l reading limit = reading + limit < l

-- the clock is
abbrev pub IsTickTooFar : (clock : CStamp) (reading limit : ℕ) → Type 0
IsTickTooFar clock reading limit = IsTooFar clock.l reading limit

-- the clock or the message is
abbrev pub IsMergeTooFar : (clock message : CStamp) (reading limit : ℕ) → Type 0
IsMergeTooFar clock message reading limit = IsTooFar (max clock.l message.l) reading limit

-- of all pairs of natural numbers, the least that is above the old one and not behind the reading
pub record IsTick (old : Pair) (reading : ℕ) (new : Pair) : Type 0 where
  pub above : IsBelow old new
  pub not_behind : reading ≤ new.l
  pub least : (p : Pair) → IsBelow old p → reading ≤ p.l → IsAtMost new p

-- of all pairs of natural numbers, the least that is above the old one and the message's, and not behind the reading
pub record IsMerge (old message : Pair) (reading : ℕ) (new : Pair) : Type 0 where
  pub above_old : IsBelow old new
  pub above_message : IsBelow message new
  pub not_behind : reading ≤ new.l
  pub least : (p : Pair) → IsBelow old p → IsBelow message p → reading ≤ p.l → IsAtMost new p

-- of all pairs of natural numbers, the least that is below neither the old one nor the message's
pub record IsObserved (old message new : Pair) : Type 0 where
  pub not_below_old : IsAtMost old new
  pub not_below_message : IsAtMost message new
  pub least : (p : Pair) → IsAtMost old p → IsAtMost message p → IsAtMost new p

-- the greater of two stamps
abbrev pub IsLater : (first second result : CStamp) → Type 0
IsLater first second result =
    IsBelow (pair_of first) (pair_of second) × (result ≡ second) ⊎ ¬ IsBelow (pair_of first) (pair_of second) × (result ≡ first)

-- a tick of a clock that has seen a message is the merge of the message
abbrev pub TicksAfterMessagesAreMerges : Type 0
TicksAfterMessagesAreMerges = (old message seen new : Pair) (reading : ℕ) → IsObserved old message seen
    → IsTick seen reading new → IsMerge old message reading new
