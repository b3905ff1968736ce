-- What is to be said of the stamp of one event.
use Rattle.std.specs.Prelude.{ℕ, ◌^◌, ◌<◌, ◌≤◌}
use Rattle.hlc_stamp.specs.Order.{IsAtMost, IsBelow, Pair}
use Rattle.hlc_c.specs.declared.stamp.CStamp.{CStamp}
use Rattle.hlc_c.specs.Stamp.{pair_of}

-- an event may have this stamp: it is above the old one and the message's, and not behind the reading
pub record IsAllowedStamp (old message : Pair) (reading : ℕ) (p : Pair) : Type 0 where
  pub above_old : IsBelow old p
  pub above_message : IsBelow message p
  pub not_behind : reading ≤ p.l

-- an event with this stamp may have a lower one, whose counter has 32 bits
abbrev pub IsAhead : (old message : Pair) (reading : ℕ) (stamp : Pair) → Type 0
IsAhead old message reading stamp = (p : Pair) × (p.c < 2 ^ 32) × IsAllowedStamp old message reading p × IsBelow p stamp

-- of all stamps below another, the greatest
pub record IsStampBefore (stamp before : CStamp) : Type 0 where
  pub below : IsBelow (pair_of before) (pair_of stamp)
  pub greatest : (p : Pair) → p.c < 2 ^ 32 → IsBelow p (pair_of stamp) → IsAtMost p (pair_of before)
