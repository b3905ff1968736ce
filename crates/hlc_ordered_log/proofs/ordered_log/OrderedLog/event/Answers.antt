use Rattle.std.proofs.Common.{◌<◌, length, arith, subst, sym, ap, ◌∙◌}
use Rattle.hlc_stamp.specs.declared.id.EventId.{EventId}
use Rattle.hlc_log.specs.Events.{event_at}
use Rattle.hlc_ordered_log.specs.InOrder.{LogInOrder}
use Rattle.hlc_ordered_log.proofs.Ordering.{named_exists, named_here, named_len}
use Rattle.hlc_ordered_log.proofs.ordered_log.OrderedLog.event.Goals as goal

pub index-requires : goal.index-requires
index-requires c =
    let size = named_len c.self.inside.log.events c.self.inside.order.items c.self.invariant.causal in
    let exists = c.requires in
    let same = ap (λ (log : LogInOrder). length log.events) c.self.view_is in
    omega arith

pub at-requires : goal.at-requires
at-requires c =
    let events = c.self.inside.log.events in
    let exists = subst (λ (log : LogInOrder). c.args.position.0 < length log.events) (sym c.self.view_is) c.requires in
    subst (λ (id : EventId). id.0 < length events) (sym c.index.ensures)
    (named_exists events c.self.inside.order.items c.self.invariant.causal c.args.position.0 c.index.result.now exists)

pub returns : goal.returns
returns c =
    let events = c.self.inside.log.events in
    let exists = subst (λ (log : LogInOrder). c.args.position.0 < length log.events) (sym c.self.view_is) c.requires in
    let here = named_here events c.self.inside.order.items c.self.invariant.causal c.args.position.0 c.index.result.now exists in
    rw (← c.self.view_is)
    (c.at.ensures ∙ ap (λ (id : EventId). event_at events id.0) c.index.ensures ∙ ap (event_at events) (sym here))
