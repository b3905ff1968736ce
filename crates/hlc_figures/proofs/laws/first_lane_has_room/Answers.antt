use Rattle.hlc_figures.proofs.NumberedDots.{first_lane_has_room, left_arrows_have_room}
use Rattle.hlc_figures.proofs.laws.first_lane_has_room.Goals as goal

pub returns : goal.returns
returns c = record { dots = first_lane_has_room; arrows = left_arrows_have_room }
