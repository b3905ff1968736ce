use Rattle.std.proofs.Common.{◌<◌, ℕ, length, arith, subst}
use Rattle.std.proofs.lemmas.List.{length-map}
use Rattle.hlc_stamp.specs.Ids.{places_of}
use Rattle.hlc_stamp.specs.declared.id.EventId.{EventId}
use Rattle.hlc_ordered_log.proofs.Ordering.{place_here}
use Rattle.hlc_log_audit.proofs.lines.lines_of.Goals as goal

pub event-requires : goal.event-requires
event-requires c =
    let events = c.args.events.now in
    let k = c.loop-event.event-index in
    let size = length-map events (λ (id : EventId). id.0) in
    let lt : k < length events = c.loop-event-test.true in
    let within : k < length (places_of events) = omega arith in
    subst (λ (e : ℕ). e < length c.args.log.now.events) (place_here events k lt) (c.requires k 0 within)
