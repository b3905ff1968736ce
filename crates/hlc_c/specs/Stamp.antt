-- Stamps as C sees them.
use Rattle.hlc_stamp.specs.Order.{Pair}
use Rattle.hlc_c.specs.declared.stamp.CStamp.{CStamp}

-- the pair that a stamp of C is
abbrev pub pair_of : CStamp → Pair
pair_of s = record { l = s.l; c = s.c }
