use Rattle.std.proofs.Common.{◌≡◌, ◌-◌, map}
use Rattle.hlc_figures.specs.Columns.{places_from}
use Rattle.hlc_figures.specs.Content.{node_at}
use Rattle.hlc_figures.proofs.lanes.nodes_between.Given as goal

abbrev pub invariant-loop-place : goal.invariant-loop-place
invariant-loop-place g l = l.nodes.items ≡ map (node_at (g.S.Subject.content l.subject)) (places_from l.first (l.place - l.first))
