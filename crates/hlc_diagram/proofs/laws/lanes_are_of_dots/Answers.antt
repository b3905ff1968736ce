use Rattle.hlc_diagram.proofs.Laned.{dots_stand_on_lanes, each_node_has_its_lane, lanes_are_of_dots}
use Rattle.hlc_diagram.proofs.laws.lanes_are_of_dots.Goals as goal

pub returns : goal.returns
returns c = record { dots = dots_stand_on_lanes; only = lanes_are_of_dots; every = each_node_has_its_lane }
