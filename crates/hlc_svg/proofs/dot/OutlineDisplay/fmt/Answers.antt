use Rattle.hlc_svg.specs.Shapes.{shape_text}
use Rattle.hlc_svg.proofs.Numerals.{eleven_is, four_is, two_is, zero_is}
use Rattle.hlc_svg.proofs.Reach.{hexagon_is}
use Rattle.hlc_svg.proofs.dot.OutlineDisplay.fmt.Goals as goal

pub returns-in-Pill-clause-writes : goal.returns-in-Pill-clause-writes
unfolding shape_text
returns-in-Pill-clause-writes g c = rw (c.in-Pill.is, ← c.width-width.ensures) c.write.ensures.writes

pub returns-in-Box-clause-writes : goal.returns-in-Box-clause-writes
unfolding shape_text
returns-in-Box-clause-writes g c = rw (c.in-Box.is, two_is, ← c.width-width.ensures) c.write-in-Box.ensures.writes

pub returns-in-Hexagon-clause-writes : goal.returns-in-Hexagon-clause-writes
returns-in-Hexagon-clause-writes g c =
    rw (c.in-Hexagon.is, hexagon_is, ← c.saturating_sub-inner.ensures) c.write-in-Hexagon.ensures.writes

pub returns-in-Slant-clause-writes : goal.returns-in-Slant-clause-writes
unfolding shape_text
returns-in-Slant-clause-writes g c = rw (c.in-Slant.is, eleven_is, ← c.saturating_sub-inner.ensures) c.write-in-Slant.ensures.writes

pub returns-in-Peak-clause-writes : goal.returns-in-Peak-clause-writes
unfolding shape_text
returns-in-Peak-clause-writes g c = rw (c.in-Peak.is, zero_is, four_is, eleven_is) c.write-in-Peak.ensures.writes

pub returns-in-Dip-clause-writes : goal.returns-in-Dip-clause-writes
unfolding shape_text
returns-in-Dip-clause-writes g c = rw (c.in-Dip.is, zero_is, four_is, eleven_is) c.write-in-Dip.ensures.writes
