use Rattle.hlc_svg.specs.Shapes.{shape_text}
use Rattle.hlc_svg.proofs.Numerals.{fifteen_is, seven_is, thirty_is}
use Rattle.hlc_svg.proofs.dot.RingDisplay.fmt.Goals as goal

pub returns-clause-writes : goal.returns-clause-writes
unfolding shape_text
returns-clause-writes g c = rw (fifteen_is, thirty_is, seven_is, ← c.from.ensures) (rw c.from-2.ensures at c.write.ensures.writes)
