use Rattle.std.proofs.Common.{◌≡◌, ◌<◌, length, subst, sym}
use Rattle.hlc_stamp.specs.Ids.{places_of}
use Rattle.hlc_stamp.specs.declared.id.EventId.{EventId}
use Rattle.hlc_log.specs.CausalOrder.{place_at}
use Rattle.hlc_log.specs.OrderSkeleton.{index_in}
use Rattle.hlc_ordered_log.specs.InOrder.{LogInOrder}
use Rattle.hlc_ordered_log.proofs.EventsInOrder.{parts_in_order}
use Rattle.hlc_ordered_log.proofs.Ordering.{position_exists, position_is, position_place}
use Rattle.hlc_ordered_log.proofs.ordered_log.OrderedLog.position.Goals as goal

pub returns-clause-exists : goal.returns-clause-exists
returns-clause-exists c =
    let events = c.self.inside.log.events in
    let exists = subst (λ (log : LogInOrder). c.args.place.0 < length log.events) (sym c.self.view_is) c.requires in
    rw (← c.self.view_is)
    (subst (λ (id : EventId). id.0 < length events) (sym c.index.ensures)
    (position_exists events c.self.inside.order.items c.self.invariant.causal c.self.inside.positions.items c.self.invariant.positions_are c.args.place.0 c.index.result.now exists))

pub returns-clause-place : goal.returns-clause-place
returns-clause-place c =
    let events = c.self.inside.log.events in
    let order = c.self.inside.order.items in
    let exists = subst (λ (log : LogInOrder). c.args.place.0 < length log.events) (sym c.self.view_is) c.requires in
    rw (← c.self.view_is)
    (subst (λ (id : EventId). place_at (places_of order) id.0 ≡ c.args.place.0) (sym c.index.ensures)
    (position_place events order c.self.invariant.causal c.self.inside.positions.items c.self.invariant.positions_are c.args.place.0 c.index.result.now exists))

pub returns-clause-index : goal.returns-clause-index
returns-clause-index c =
    let events = c.self.inside.log.events in
    let order = c.self.inside.order.items in
    let exists = subst (λ (log : LogInOrder). c.args.place.0 < length log.events) (sym c.self.view_is) c.requires in
    rw (← c.self.view_is)
    (subst (λ (id : EventId). id.0 ≡ index_in (places_of order) c.args.place.0) (sym c.index.ensures)
    (position_is events order c.self.invariant.causal c.self.inside.positions.items c.self.invariant.positions_are c.args.place.0 c.index.result.now exists))

pub returns-clause-ordered : goal.returns-clause-ordered
returns-clause-ordered c = rw (← c.self.view_is) (parts_in_order _ _ _ _ c.self.invariant)
