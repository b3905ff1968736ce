use Rattle.std.proofs.Common.{List, subst, sym}
use Rattle.hlc_stamp.specs.declared.id.EventId.{EventId}
use Rattle.hlc_stamp.specs.Ids.{places_of}
use Rattle.hlc_log.specs.Parted.{IsGreatestPrefix}
use Rattle.hlc_log.proofs.KeptEvents.{greatest_placed}
use Rattle.hlc_log.proofs.place_order.place_most.Goals as goal

pub returns-clause-order : goal.returns-clause-order
returns-clause-order c =
    let events = c.args.log.now.events in
    let placing = c.in_ok-placing.placing in
    subst (λ (ids : List EventId). IsGreatestPrefix events (places_of ids)) (sym c.into_order.ensures)
    (greatest_placed events placing.next.items placing.fronts.items (places_of placing.order.items) c.in_ok-placing.ensures.placing c.in_ok-placing.ensures.stuck)
