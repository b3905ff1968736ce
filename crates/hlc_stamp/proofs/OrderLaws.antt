-- The laws of the order of pairs.
use Rattle.std.proofs.Common.{arith}
use Rattle.hlc_stamp.specs.Order.{IsBelow, IsAtMost, Pair}

pub below_trans : (p q r : Pair) → IsBelow p q → IsBelow q r → IsBelow p r
below_trans p q r a b = grind arith

pub at_most_below : (p q r : Pair) → IsAtMost p q → IsBelow q r → IsBelow p r
at_most_below p q r a b = grind arith

pub at_most_trans : (p q r : Pair) → IsAtMost p q → IsAtMost q r → IsAtMost p r
at_most_trans p q r a b = grind arith

pub at_most_itself : (p : Pair) → IsAtMost p p
at_most_itself p = grind arith

pub at_most_from_below : (p q : Pair) → IsBelow p q → IsAtMost p q
at_most_from_below p q a = grind arith
