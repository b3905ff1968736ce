use Rattle.std.proofs.Common.{◌≡◌, ◌+◌, ◌<◌, length, replicate, ℕ, List, Option, None, arith, subst, sym, ap, ◌∙◌}
use Rattle.std.specs.Prelude.{All, slice_index_or}
use Rattle.std.proofs.lemmas.List.{length-map, length-replicate}
use Rattle.hlc_stamp.specs.Ids.{places_of}
use Rattle.hlc_stamp.specs.declared.id.EventId.{EventId}
use Rattle.hlc_causality.specs.Neighbours.{place_of}
use Rattle.hlc_causality.specs.ReceiveEvents.{ClockRules}
use Rattle.hlc_log.specs.CausalOrder.{IsCausalOrder}
use Rattle.hlc_log.specs.Events.{IsMessageBelow, IsNumbered, event_at}
use Rattle.hlc_log.specs.Messages.{AreMessagesSound}
use Rattle.hlc_log.specs.declared.log_event.LogEvent.{LogEvent}
use Rattle.hlc_ordered_log.specs.InOrder.{AreOfNodes, AreSendsOf, HasFirst, NamesSendIn, send_received}
use Rattle.hlc_ordered_log.proofs.Executions.{has_all, has_next, has_none, next_follows}
use Rattle.hlc_ordered_log.proofs.Ordering.{length-with_send, next_exists, next_few, next_in_range, next_named, next_numbered, next_told, next_within, no_sends, sends_are_kept}
use Rattle.hlc_ordered_log.proofs.in_order.execution_in.Goals as goal

pub loop-place-init : goal.loop-place-init
loop-place-init c =
    let made = c.in_ok-execution.ensures in
    let events = c.args.log.now.events in
    let places = places_of c.args.order.now in
    let empty : c.in_ok-sends.sends.items ≡ replicate c.args.messages None =
    c.in_ok-sends.ensures.items_if_clones_equal (λ y h. h) ∙ ap (replicate c.args.messages) c.none.ensures in
    record {
      nodes = made.nodes;
      receives = ap (λ (rules : ClockRules). rules.receives) made.rules;
      first = has_none c.args.receives events places c.in_ok-execution.execution made.rules made.events made.stamps;
      len = ap (λ (xs : List (Option EventId)). length xs) empty ∙ length-replicate c.args.messages _;
      sends = subst (AreSendsOf events places 0) (sym empty) (no_sends events places c.args.messages);
    }

pub at-event-requires : goal.at-event-requires
at-event-requires c = next_exists c.args.log.now.events c.args.order.now c.args.messages c.loop-place.place-index c.loop-place-test.true c.requires.order.causal

-- the next event, and where the send of what it receives stands
module _ (events : List LogEvent) (order : List EventId) (messages k : ℕ) (lt : k < length order) (whole : IsCausalOrder events (places_of order))
    (event : LogEvent) (is : event ≡ event_at events (slice_index_or order k (record { 0 = 0 })).0) (all : All (IsNumbered messages) events)
    (sends : List (Option EventId)) (len : length sends ≡ messages) where
  below : IsMessageBelow (length sends) event.kind
  below =
      subst (λ (n : ℕ). IsMessageBelow n event.kind) (sym len)
      (next_numbered events order messages k lt whole.causal event is all).message

  module _ (sound : AreMessagesSound events) (are : AreSendsOf events (places_of order) k sends) (found : List (Option EventId)) (same : found ≡ sends)
      (send : Option EventId) (received : send ≡ send_received found event.kind) where
    named : NamesSendIn events (places_of order) k (place_of send)
    named =
        subst (λ (s : Option EventId). NamesSendIn events (places_of order) k (place_of s))
        (sym (received ∙ ap (λ (xs : List (Option EventId)). send_received xs event.kind) same))
        (next_named events order messages k lt whole.causal event is sends sound are below)

pub send_received-send-requires : goal.send_received-send-requires
send_received-send-requires c =
    subst (λ (xs : List (Option EventId)). IsMessageBelow (length xs) c.at-event.result.kind) (sym c.deref.ensures.value)
    (below c.args.log.now.events c.args.order.now c.args.messages c.loop-place.place-index c.loop-place-test.true c.requires.order c.at-event.result
    c.at-event.ensures c.requires.numbered c.loop-place.sends.items c.loop-place.invariant.len)

pub push_event-requires-clause-few : goal.push_event-requires-clause-few
push_event-requires-clause-few c =
    let lt = next_few c.args.log.now.events c.args.order.now c.args.messages c.loop-place.place-index c.loop-place-test.true c.requires.order.causal in
    let size = c.loop-place.invariant.first.seen.one_each in
    let most = c.requires.few in
    omega arith

pub push_event-requires-clause-in_range : goal.push_event-requires-clause-in_range
push_event-requires-clause-in_range c = next_in_range c.args.log.now.events c.args.order.now c.args.messages c.loop-place.place-index
    c.loop-place-test.true c.requires.order.causal c.at-event.result c.at-event.ensures c.requires.in_range

pub push_event-requires-clause-ruled : goal.push_event-requires-clause-ruled
push_event-requires-clause-ruled c = omega (arith, c.loop-place.invariant.first.ruled, c.loop-place.invariant.first.seen.one_each)

pub push_event-requires-clause-least : goal.push_event-requires-clause-least
push_event-requires-clause-least c = c.loop-place.invariant.first.least

pub push_event-requires-clause-follows : goal.push_event-requires-clause-follows
push_event-requires-clause-follows c =
    let h = c.loop-place.invariant in
    next_follows c.args.log.now.events c.args.order.now c.requires.order c.loop-place.place-index c.loop-place-test.true c.at-event.result c.at-event.ensures
    c.loop-place.execution h.first (place_of c.send_received-send.result)
    (named c.args.log.now.events c.args.order.now c.args.messages c.loop-place.place-index c.loop-place-test.true c.requires.order c.at-event.result
    c.at-event.ensures c.requires.numbered c.loop-place.sends.items h.len c.requires.messages h.sends _ c.deref.ensures.value c.send_received-send.result
    c.send_received-send.ensures)
    (subst (λ (n : ℕ). AreOfNodes n c.args.log.now.events) (sym h.nodes) c.requires.named)

pub keep_send-requires-clause-message : goal.keep_send-requires-clause-message
keep_send-requires-clause-message c =
    below c.args.log.now.events c.args.order.now c.args.messages c.loop-place.place-index c.loop-place-test.true c.requires.order c.at-event.result
    c.at-event.ensures c.requires.numbered c.loop-place.sends.items c.loop-place.invariant.len

pub keep_send-requires-clause-few : goal.keep_send-requires-clause-few
keep_send-requires-clause-few c =
    let lt = next_few c.args.log.now.events c.args.order.now c.args.messages c.loop-place.place-index c.loop-place-test.true c.requires.order.causal in
    let size = c.loop-place.invariant.first.seen.one_each in
    let most = c.requires.few in
    let place = c.in_ok-position.ensures.place in
    omega arith

pub loop-place-preserved : goal.loop-place-preserved
loop-place-preserved c =
    let events = c.args.log.now.events in
    let order = c.args.order.now in
    let k = c.loop-place.place-index in
    let h = c.loop-place.invariant in
    let lt = c.loop-place-test.true in
    let causal = c.requires.order.causal in
    let event = c.at-event.result in
    let sends = c.loop-place.sends.items in
    let position = c.in_ok-position.position in
    let more = c.in_ok-position.ensures.more in
    record {
      nodes = more.nodes ∙ h.nodes;
      receives = more.receives ∙ h.receives;
      first =
          has_next events order c.requires.order k lt event c.at-event.ensures c.loop-place.execution h.first (place_of c.send_received-send.result)
          (named events order c.args.messages k lt c.requires.order event c.at-event.ensures c.requires.numbered sends h.len c.requires.messages h.sends _
          c.deref.ensures.value c.send_received-send.result c.send_received-send.ensures) c.push_event.new.execution more;
      len = ap (λ (xs : List (Option EventId)). length xs) c.keep_send.ensures ∙ length-with_send sends event.kind position ∙ h.len;
      sends =
          subst (AreSendsOf events (places_of order) (k + 1)) (sym c.keep_send.ensures)
          (sends_are_kept events (places_of order) k (next_within events order c.args.messages k lt causal) causal c.requires.messages sends h.sends event.kind
          (ap (λ (e : LogEvent). e.kind) (next_told events order c.args.messages k lt causal event c.at-event.ensures))
          (below events order c.args.messages k lt c.requires.order event c.at-event.ensures c.requires.numbered sends h.len) position
          (c.in_ok-position.ensures.place ∙ h.first.seen.one_each));
    }

pub returns-clause-receives : goal.returns-clause-receives
returns-clause-receives c = c.loop-place.invariant.receives

pub returns-clause-nodes : goal.returns-clause-nodes
returns-clause-nodes c = c.loop-place.invariant.nodes

pub returns-clause-execution : goal.returns-clause-execution
returns-clause-execution c =
    let order = c.args.order.now in
    let size = length-map order (λ (id : EventId). id.0) in
    let ends : c.loop-place.place-index ≡ length (places_of order) =
    (let last = c.loop-place-test.false in let most = c.loop-place.auto.place-index-end in omega arith) in
    has_all c.args.log.now.events (places_of order) c.loop-place.execution c.requires.order c.requires.messages.once
    (subst (λ (n : ℕ). HasFirst c.args.log.now.events (places_of order) n c.loop-place.execution) ends c.loop-place.invariant.first)
