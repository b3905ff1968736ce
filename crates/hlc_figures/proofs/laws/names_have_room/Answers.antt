use Rattle.hlc_figures.proofs.NumberedDots.{names_have_room}
use Rattle.hlc_figures.proofs.laws.names_have_room.Goals as goal

pub returns : goal.returns
returns c = names_have_room
