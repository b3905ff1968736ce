use Rattle.hlc_svg.proofs.Reach.{dots_are_in_rings, outlines_are_within, rings_are_around, rows_are_apart, rows_are_below_the_border}
use Rattle.hlc_svg.proofs.laws.shapes_have_room.Goals as goal

pub returns : goal.returns
returns c = record { outlines = outlines_are_within; rings = rings_are_around; inside = dots_are_in_rings; rows = rows_are_apart; border = rows_are_below_the_border }
