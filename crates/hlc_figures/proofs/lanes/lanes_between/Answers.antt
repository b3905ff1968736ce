use Rattle.std.proofs.Common.{◌<◌, ◌-◌, All, List, ℕ, arith, subst, sym}
use Rattle.hlc_figures.specs.Columns.{places_from}
use Rattle.hlc_figures.proofs.NodeLanes.{nodes_are, places_exist}
use Rattle.hlc_figures.proofs.lanes.lanes_between.Goals as goal

pub in_order-requires-clause-exist : goal.in_order-requires-clause-exist
in_order-requires-clause-exist g c =
    let of = g.S.Subject.content c.args.subject.now in
    let count = c.args.end - c.args.first in
    subst (λ (nodes : List ℕ). All (λ node. node < of.nodes) nodes) (sym c.in_ok-nodes.ensures)
    (nodes_are of c.nodes_exist.ensures (places_from c.args.first count) (places_exist c.args.first count _ (omega arith)))
