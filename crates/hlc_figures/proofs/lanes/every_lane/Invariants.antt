use Rattle.std.proofs.Common.{◌≡◌}
use Rattle.hlc_causality.specs.Places.{places_below}
use Rattle.hlc_figures.proofs.lanes.every_lane.Given as goal

abbrev pub invariant-loop-node : goal.invariant-loop-node
invariant-loop-node g l = l.nodes.items ≡ places_below l.node
