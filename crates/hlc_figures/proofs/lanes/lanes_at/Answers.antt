use Rattle.std.proofs.Common.{◌<◌, All, List, ℕ, subst, sym}
use Rattle.hlc_stamp.specs.Ids.{places_of}
use Rattle.hlc_figures.proofs.NodeLanes.{nodes_are}
use Rattle.hlc_figures.proofs.lanes.lanes_at.Goals as goal

pub in_order-requires-clause-exist : goal.in_order-requires-clause-exist
in_order-requires-clause-exist g c =
    let of = g.S.Subject.content c.args.subject.now in
    subst (λ (nodes : List ℕ). All (λ node. node < of.nodes) nodes) (sym c.in_ok-nodes.ensures)
    (nodes_are of c.nodes_exist.ensures (places_of c.args.events.now) c.requires)
