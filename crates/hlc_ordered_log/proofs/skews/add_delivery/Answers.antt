use Rattle.std.proofs.Common.{ap, subst, sym, ◌∙◌}
use Rattle.std.proofs.lemmas.Result.{on_ok_weaker}
use Rattle.hlc_stamp.specs.declared.id.EventId.{EventId}
use Rattle.hlc_causality.specs.Causality.{Skeleton, skeleton_at}
use Rattle.hlc_ordered_log.specs.InOrder.{reading_told, skeleton_of}
use Rattle.hlc_ordered_log.specs.Skew.{IsMessage, IsToldSend}
use Rattle.hlc_ordered_log.proofs.MoreMessages.{skews_with, skews_without}
use Rattle.hlc_ordered_log.proofs.skews.add_delivery.Goals as goal

pub returns : goal.returns
returns c =
    let s = skeleton_of c.args.log.now in
    let told = reading_told c.args.log.now in
    let at = c.args.event.0 in
    let to = c.node_at-to.result.0 in
    let from = c.node_at-from.result.0 in
    let shown = c.skew_of-skew.result in
    let made = c.skew_of-skew.ensures in
    let events = c.execution.ensures.events in
    let here = ap (λ (id : EventId). id.0) made.delivery in
    let sent : IsToldSend s told shown.send.0 shown.delivery.0 =
    subst (λ (id : EventId). IsToldSend s told id.0 shown.delivery.0) (sym made.send)
    (subst (λ (id : EventId). IsToldSend s told c.in-Some.send.0 id.0) (sym made.delivery) c.in-Some.ensures) in
    let message : IsMessage s told from to shown.send.0 shown.delivery.0 = record {
      sent = sent;
      from_node = ap (λ (id : EventId). (skeleton_at s id.0).node) made.send ∙ sym c.node_at-from.ensures;
      to_node = ap (λ (id : EventId). (skeleton_at s id.0).node) made.delivery ∙ sym c.node_at-to.ensures;
    } in
    let sent_at =
    made.sent_at ∙ ap (λ (events : Skeleton). (skeleton_at events c.in-Some.send.0).reading) events
    ∙ ap (λ (id : EventId). (skeleton_at s id.0).reading) (sym made.send) in
    let delivered_at =
    made.delivered_at ∙ ap (λ (events : Skeleton). (skeleton_at events at).reading) events
    ∙ ap (λ (id : EventId). (skeleton_at s id.0).reading) (sym made.delivery) in
    on_ok_weaker c.take_skew.result (λ takes.
    skews_with s told at from to shown here message sent_at delivered_at c.args.skews.now.entries c.take_skew.new.skews.entries c.requires.before takes)
    c.take_skew.ensures

pub returns-in_default : goal.returns-in_default
returns-in_default c =
    skews_without (skeleton_of c.args.log.now) (reading_told c.args.log.now) c.args.event.0 c.args.skews.now.entries c.in_default.ensures c.requires.before
