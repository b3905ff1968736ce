use Rattle.std.proofs.Common.{◌⊎◌, arith, inl, inr}
use Rattle.hlc_stamp.specs.Order.{IsAtMost, IsBelow, Pair}
use Rattle.hlc_stamp.proofs.OrderLaws.{at_most_below, at_most_itself}
use Rattle.hlc_c.specs.Clock.{IsObserved}
use Rattle.hlc_c.proofs.laws.seen_messages_count_later.Goals as goal

-- of two pairs one is at most the other
either_at_most : (p q : Pair) → IsAtMost p q ⊎ IsAtMost q p
either_at_most p q = grind arith

-- what is above both is above what was seen
above_seen : (old message seen p : Pair) → IsObserved old message seen → IsBelow old p → IsBelow message p → IsBelow seen p
above_seen old message seen p observed above_old above_message = elim (either_at_most old message) [
  | inl low ↦ at_most_below seen message p (observed.least message low (at_most_itself message)) above_message
  | inr low ↦ at_most_below seen old p (observed.least old (at_most_itself old) low) above_old
]

pub returns : goal.returns
returns c old message seen new reading observed tick = record {
  above_old = at_most_below old seen new observed.not_below_old tick.above;
  above_message = at_most_below message seen new observed.not_below_message tick.above;
  not_behind = tick.not_behind;
  least = λ p above_old above_message ahead. tick.least p (above_seen old message seen p observed above_old above_message) ahead;
}
