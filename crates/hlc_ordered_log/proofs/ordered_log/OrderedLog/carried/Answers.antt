use Rattle.std.proofs.Common.{ℕ, ◌<◌, length, arith, subst, sym, ap, ◌∙◌}
use Rattle.hlc_stamp.specs.declared.id.EventId.{EventId}
use Rattle.hlc_log.specs.Events.{event_at}
use Rattle.hlc_ordered_log.specs.InOrder.{LogInOrder}
use Rattle.hlc_ordered_log.proofs.Ordering.{named_exists, named_here, named_len}
use Rattle.hlc_ordered_log.proofs.ordered_log.OrderedLog.carried.Goals as goal

pub index-requires : goal.index-requires
index-requires c =
    let size = named_len c.self.inside.log.events c.self.inside.order.items c.self.invariant.causal in
    let exists = c.requires in
    let same = ap (λ (log : LogInOrder). length log.events) c.self.view_is in
    omega arith

pub carried_at-requires : goal.carried_at-requires
carried_at-requires c =
    let events = c.self.inside.log.events in
    let exists = subst (λ (log : LogInOrder). c.args.position.0 < length log.events) (sym c.self.view_is) c.requires in
    subst (λ (id : EventId). id.0 < length events) (sym c.index.ensures)
    (named_exists events c.self.inside.order.items c.self.invariant.causal c.args.position.0 c.index.result.now exists)

pub returns : goal.returns
returns c =
    let events = c.self.inside.log.events in
    let exists = subst (λ (log : LogInOrder). c.args.position.0 < length log.events) (sym c.self.view_is) c.requires in
    let here = named_here events c.self.inside.order.items c.self.invariant.causal c.args.position.0 c.index.result.now exists in
    rw (← c.self.view_is)
    (c.carried_at.ensures ∙ ap (λ (id : EventId). (event_at events id.0).carried) c.index.ensures
    ∙ ap (λ (e : ℕ). (event_at events e).carried) (sym here))
