use Rattle.std.proofs.Common.{◌≡◌, ◌∙◌, ℕ, length, arith, subst, sym, ap}
use Rattle.std.proofs.lemmas.List.{length-map}
use Rattle.hlc_stamp.specs.Ids.{places_of}
use Rattle.hlc_stamp.specs.declared.id.EventId.{EventId}
use Rattle.hlc_causality.specs.Neighbours.{place_of}
use Rattle.hlc_causality.specs.ReceiveEvents.{ClockRules}
use Rattle.hlc_ordered_log.specs.InOrder.{AreOfNodes, HasFirst}
use Rattle.hlc_ordered_log.proofs.Executions.{has_all, has_next, has_none, next_follows}
use Rattle.hlc_ordered_log.proofs.Ordering.{next_exists, next_few, next_in_range, place_here}
use Rattle.hlc_ordered_log.proofs.reordering.reordered_execution.Goals as goal

pub loop-place-init : goal.loop-place-init
loop-place-init c =
    let made = c.in_ok-execution.ensures in
    record {
      nodes = made.nodes ∙ c.nodes.ensures ∙ c.execution-known.ensures.nodes;
      receives = ap (λ (rules : ClockRules). rules.receives) made.rules ∙ c.receives.ensures ∙ c.execution-known.ensures.receives;
      first = has_none c.receives.result c.args.log.now.events (places_of c.args.order.now) c.in_ok-execution.execution made.rules made.events made.stamps;
    }

pub send_in-send-requires-clause-exists : goal.send_in-send-requires-clause-exists
send_in-send-requires-clause-exists c =
    next_exists c.args.log.now.events c.args.order.now 0 c.loop-place.place-index c.loop-place-test.true c.requires.order.causal

pub at-requires : goal.at-requires
at-requires c = next_exists c.args.log.now.events c.args.order.now 0 c.loop-place.place-index c.loop-place-test.true c.requires.order.causal

pub push_event-requires-clause-few : goal.push_event-requires-clause-few
push_event-requires-clause-few c =
    let lt = next_few c.args.log.now.events c.args.order.now 0 c.loop-place.place-index c.loop-place-test.true c.requires.order.causal in
    let size = c.loop-place.invariant.first.seen.one_each in
    let most = c.len-ordered.ensures.ordered.few in
    omega arith

pub push_event-requires-clause-in_range : goal.push_event-requires-clause-in_range
push_event-requires-clause-in_range c =
    next_in_range c.args.log.now.events c.args.order.now 0 c.loop-place.place-index c.loop-place-test.true c.requires.order.causal c.at.result c.at.ensures
    c.len-ordered.ensures.ordered.in_range

pub push_event-requires-clause-ruled : goal.push_event-requires-clause-ruled
push_event-requires-clause-ruled c = omega (arith, c.loop-place.invariant.first.ruled, c.loop-place.invariant.first.seen.one_each)

pub push_event-requires-clause-follows : goal.push_event-requires-clause-follows
push_event-requires-clause-follows c =
    let h = c.loop-place.invariant in
    let order = c.args.order.now in
    let k = c.loop-place.place-index in
    let lt = c.loop-place-test.true in
    next_follows c.args.log.now.events order c.requires.order k lt c.at.result c.at.ensures
    c.loop-place.execution h.first (place_of c.send_in-send.result)
    (c.send_in-send.ensures order c.requires.order c.requires.positions k lt (place_here order k lt))
    (subst (λ (n : ℕ). AreOfNodes n c.args.log.now.events) (sym h.nodes) c.len-ordered.ensures.ordered.of_nodes)

pub loop-place-preserved : goal.loop-place-preserved
loop-place-preserved c =
    let h = c.loop-place.invariant in
    let order = c.args.order.now in
    let k = c.loop-place.place-index in
    let lt = c.loop-place-test.true in
    let more = c.in_ok-push_event.ensures.more in
    record {
      nodes = more.nodes ∙ h.nodes;
      receives = more.receives ∙ h.receives;
      first =
          has_next c.args.log.now.events order c.requires.order k lt c.at.result c.at.ensures c.loop-place.execution h.first (place_of c.send_in-send.result)
          (c.send_in-send.ensures order c.requires.order c.requires.positions k lt (place_here order k lt)) c.push_event.new.execution more;
    }

pub returns-clause-execution : goal.returns-clause-execution
returns-clause-execution c =
    let order = c.args.order.now in
    let size = length-map order (λ (id : EventId). id.0) in
    let ends : c.loop-place.place-index ≡ length (places_of order) =
    (let last = c.loop-place-test.false in let most = c.loop-place.auto.place-index-end in omega arith) in
    has_all c.args.log.now.events (places_of order) c.loop-place.execution c.requires.order c.len-ordered.ensures.ordered.messages.once
    (subst (λ (n : ℕ). HasFirst c.args.log.now.events (places_of order) n c.loop-place.execution) ends c.loop-place.invariant.first)
