use Rattle.std.proofs.Common.{◌≡◌, length, min, true, arith, subst, sym, ap, ◌∙◌}
use Rattle.hlc_causality.specs.Causality.{Skeleton}
use Rattle.hlc_causality.specs.Neighbours.{deliveries_of}
use Rattle.hlc_log.proofs.OrderSkeletons.{length-skeleton_in}
use Rattle.hlc_log.specs.declared.log_event.LogEvent.{LogEvent}
use Rattle.hlc_ordered_log.specs.declared.messages.MessageCounts.{MessageCounts}
use Rattle.hlc_ordered_log.specs.Messages.{CanCountEvent, counts_before, is_sent, kind_in, receives_in, with_event}
use Rattle.hlc_ordered_log.proofs.MessageCounting.{counts_more, event_can_be_counted, received_if_sent, two_are_enough}
use Rattle.hlc_ordered_log.proofs.Ordering.{order_len}
use Rattle.hlc_ordered_log.proofs.messages.count_messages.Goals as goal

pub receives_if_sent-requires : goal.receives_if_sent-requires
receives_if_sent-requires c =
    let log = c.args.log.now in
    let ordered = c.len-position-end.ensures.ordered in
    let many = c.len-position-end.ensures.value in
    let size = length-skeleton_in log.events log.order ordered.causal in
    let all = order_len log.events log.order ordered.causal in
    let same = ap (λ (s : Skeleton). length s) c.execution-execution.ensures.events in
    omega arith

pub add-requires : goal.add-requires
add-requires c =
    let few = c.len-position-end.ensures.ordered.few in
    let many = c.len-position-end.ensures.value in
    let n = c.loop-position.position in
    subst CanCountEvent (sym c.loop-position.invariant) (event_can_be_counted c.args.log.now n (omega arith))

pub loop-position-preserved : goal.loop-position-preserved
loop-position-preserved c =
    let log = c.args.log.now in
    let n = c.loop-position.position in
    let receives = c.receives_if_sent.result in
    let what = c.event-kind.result.kind in
    let received : is_sent what ≡ true → receives ≡ min (receives_in log n) 2 =
    λ sent. c.receives_if_sent.ensures sent ∙ ap (λ (s : Skeleton). min (length (deliveries_of s n)) 2) c.execution-execution.ensures.events in
    c.add.ensures
    ∙ ap (λ (counts : MessageCounts). with_event counts what receives) c.loop-position.invariant
    ∙ received_if_sent (counts_before log n) what receives (min (receives_in log n) 2) received
    ∙ ap (λ (event : LogEvent). with_event (counts_before log n) event.kind (min (receives_in log n) 2)) c.event-kind.ensures
    ∙ two_are_enough (counts_before log n) (kind_in log n) (receives_in log n)
    ∙ sym (counts_more log n)
