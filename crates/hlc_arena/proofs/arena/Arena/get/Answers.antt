use Rattle.std.proofs.Common.{◌∙◌, ◌<◌, length, sym, ap, arith, tests}
use Rattle.hlc_causality.specs.Assignment.{pair_at}
use Rattle.hlc_causality.specs.Causality.{SkeletonEvent, skeleton_at}
use Rattle.hlc_stamp.specs.Order.{Pair}
use Rattle.hlc_arena.specs.Kinds.{event_kind_of}
use Rattle.hlc_arena.proofs.Keeping.{event_shown, length-shown}
use Rattle.hlc_arena.proofs.StampedEvents.{stamped_event}
use Rattle.hlc_arena.proofs.arena.Arena.get.Goals as goal

pub returns-clause-event : goal.returns-clause-event
returns-clause-event c =
    let x = c.self.inside.execution in
    let i = c.args.id.0 in
    let event = c.in_ok-event.event in
    let kind = event_kind_of c.kind.result in
    let none = c.in_ok-event.ensures.none in
    let size = length-shown c.self.invariant c.self.view_is in
    let lt : i < length c.args.self.now.events = grind (arith, tests, none, size) in
    ap (λ (e : SkeletonEvent). stamped_event e event.stamp kind) c.in_ok-event.ensures.event
    ∙ ap (λ (p : Pair). stamped_event (skeleton_at x.events i) p kind) c.in_ok-event.ensures.stamp
    ∙ ap (stamped_event (skeleton_at x.events i) (pair_at x.stamps i)) c.kind.ensures
    ∙ sym (event_shown c.self.invariant c.self.view_is i lt)
