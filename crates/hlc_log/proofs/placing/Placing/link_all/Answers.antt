use Rattle.std.proofs.Common.{◌≡◌, ◌<◌, ◌+◌, ◌-◌, ◌∙◌, ℕ, length, None, arith, refl, subst, ap}
use Rattle.std.proofs.lemmas.List.{get_or_read, length-set}
use Rattle.hlc_stamp.specs.declared.id.EventId.{EventId}
use Rattle.hlc_stamp.specs.declared.id.NodeId.{NodeId}
use Rattle.hlc_log.specs.Placing.{AreNodesLinked, node_at}
use Rattle.hlc_log.specs.SendLinks.{link_at}
use Rattle.hlc_log.proofs.Placements.{one_more_linked}
use Rattle.hlc_log.proofs.placing.Placing.link_all.Goals as goal

pub loop-place-preserved : goal.loop-place-preserved
loop-place-preserved c =
    let events = c.args.log.now.events in
    let next = c.loop-place.self.next.items in
    let fronts = c.loop-place.self.fronts.items in
    let low = c.loop-place.place - 1 in
    let size = c.len-place.ensures.value in
    let exists : low < length events = let some = c.loop-place-test.true in let le = c.loop-place.auto.place in omega arith in
    let event : EventId = record { 0 = low } in
    let node : c.node_at-node.result.0 ≡ node_at events low = ap (λ (n : NodeId). n.0) c.node_at-node.ensures in
    let later : c.loop-place.place ≡ low + 1 = let some = c.loop-place-test.true in omega arith in
    let before = subst (λ (n : ℕ). AreNodesLinked events n next fronts) later c.loop-place.invariant.linked in
    let linked = one_more_linked events low event refl next fronts exists before in
    let below : c.node_at-node.result.0 < length fronts = omega (arith, before.nodes low exists, node) in
    let read = get_or_read fronts c.node_at-node.result.0 c.index.result.now below c.index.ensures None in
    let link : c.to_any.result ≡ link_at fronts (node_at events low) = c.to_any.ensures ∙ read ∙ ap (link_at fronts) node in
    record {
      linked = rw (link, node) linked;
      nodes = length-set fronts _ _ ∙ c.loop-place.invariant.nodes;
      turns = c.loop-place.invariant.turns;
      order = c.loop-place.invariant.order;
    }
