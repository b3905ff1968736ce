use Rattle.std.proofs.Common.{◌≡◌, map, take}
use Rattle.hlc_stamp.specs.Ids.{places_of}
use Rattle.hlc_figures.specs.Content.{node_at}
use Rattle.hlc_figures.proofs.lanes.nodes_at.Given as goal

abbrev pub invariant-loop-event : goal.invariant-loop-event
invariant-loop-event g l = l.nodes.items ≡ map (node_at (g.S.Subject.content l.subject)) (places_of (take l.event-index l.events))
