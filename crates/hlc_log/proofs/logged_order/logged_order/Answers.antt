use Rattle.std.proofs.Common.{arith, ap, length, ℕ, List}
use Rattle.std.proofs.lemmas.List.{length-map}
use Rattle.hlc_stamp.specs.declared.id.EventId.{EventId}
use Rattle.hlc_causality.proofs.PlacesBelow.{length-places_below}
use Rattle.hlc_log.proofs.logged_order.logged_order.Goals as goal

pub push_reserved-requires : goal.push_reserved-requires
push_reserved-requires c =
    let items = c.loop-place.order.items in
    let size = length-map items (λ (id : EventId). id.0) in
    let same = ap (λ (places : List ℕ). length places) c.loop-place.invariant.places in
    let count = length-places_below c.loop-place.place in
    let held = c.loop-place.order.ok.0 in
    let room = c.loop-place.invariant.room in
    omega arith
