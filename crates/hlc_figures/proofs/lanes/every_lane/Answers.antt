use Rattle.std.proofs.Common.{◌≡◌, ◌∙◌, ℕ, suc, ◌+◌, ◌++◌, ◌∷◌, [], List, ap, arith}
use Rattle.hlc_causality.specs.Places.{places_below}
use Rattle.hlc_figures.proofs.NodeLanes.{every_in_order}
use Rattle.hlc_figures.proofs.lanes.every_lane.Goals as goal

pub loop-node-preserved : goal.loop-node-preserved
loop-node-preserved g c =
    let node = c.loop-node.node in
    let next : suc node ≡ node + 1 = omega arith in
    c.in_ok-push.ensures.items ∙ ap (λ (nodes : List ℕ). nodes ++ node ∷ []) c.loop-node.invariant ∙ ap places_below next

pub invariant_of-result : goal.invariant_of-result
invariant_of-result g c = every_in_order c.loop-node.node c.loop-node.nodes.items (omega arith) c.loop-node.invariant

pub returns : goal.returns
returns g c =
    let all : c.loop-node.node ≡ (g.S.Subject.content c.args.subject.now).nodes = omega (arith, c.nodes-node-end.ensures, c.execution.ensures.nodes) in
    c.loop-node.invariant ∙ ap places_below all
