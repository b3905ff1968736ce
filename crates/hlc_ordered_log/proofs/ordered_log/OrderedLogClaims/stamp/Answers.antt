use Rattle.std.proofs.Common.{◌≡◌, ◌<◌, ℕ, List, length, arith, subst, sym, ap, ◌∙◌}
use Rattle.std.proofs.lemmas.List.{length-map}
use Rattle.hlc_stamp.specs.Ids.{places_of}
use Rattle.hlc_stamp.specs.declared.id.EventId.{EventId}
use Rattle.hlc_log.specs.CausalOrder.{IsCausalOrder}
use Rattle.hlc_log.specs.Events.{event_at}
use Rattle.hlc_log.specs.declared.log_event.LogEvent.{LogEvent}
use Rattle.hlc_ordered_log.specs.InOrder.{LogInOrder, claimed_of}
use Rattle.hlc_ordered_log.proofs.Ordering.{claimed_at, named_exists, named_here, order_len}
use Rattle.hlc_ordered_log.proofs.ordered_log.OrderedLogClaims.stamp.Goals as goal

-- the event is one of the log's
module _ (log : LogInOrder) (events : List LogEvent) (order : List EventId) (whole : IsCausalOrder events (places_of order)) (e : ℕ)
    (events_are : log.events ≡ events) (order_is : log.order ≡ places_of order) (claimed : e < length (claimed_of log)) where
  exists : e < length events
  exists =
      let size = order_len events (places_of order) whole in
      let mapped = length-map log.order (λ (place : ℕ). (event_at log.events place).stamp) in
      let same = ap (λ (places : List ℕ). length places) order_is in
      omega arith

pub stamp_at-requires : goal.stamp_at-requires
stamp_at-requires c =
    let inside = c.self.inside in
    let lt = exists c.args.self.now inside.log.events inside.order.items c.self.invariant.causal c.args.event.0
    (ap (λ (log : LogInOrder). log.events) (sym c.self.view_is)) (ap (λ (log : LogInOrder). log.order) (sym c.self.view_is)) c.requires in
    subst (λ (id : EventId). id.0 < length inside.log.events) (sym c.index-place.ensures)
    (named_exists inside.log.events inside.order.items c.self.invariant.causal c.args.event.0 c.index-place.result.now lt)

pub returns : goal.returns
returns c =
    let inside = c.self.inside in
    let lt = exists c.args.self.now inside.log.events inside.order.items c.self.invariant.causal c.args.event.0
    (ap (λ (log : LogInOrder). log.events) (sym c.self.view_is)) (ap (λ (log : LogInOrder). log.order) (sym c.self.view_is)) c.requires in
    let size = order_len inside.log.events (places_of inside.order.items) c.self.invariant.causal in
    let here = named_here inside.log.events inside.order.items c.self.invariant.causal c.args.event.0 c.index-place.result.now lt in
    rw (← c.self.view_is)
    (c.stamp_at.ensures
    ∙ ap (λ (e : LogEvent). e.stamp) (ap (λ (id : EventId). event_at inside.log.events id.0) c.index-place.ensures
    ∙ ap (event_at inside.log.events) (sym here))
    ∙ sym (claimed_at inside.log.events (places_of inside.order.items) c.args.event.0 (omega arith)))
