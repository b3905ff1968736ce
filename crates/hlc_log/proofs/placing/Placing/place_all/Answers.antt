use Rattle.std.proofs.Common.{◌≡◌, length, arith}
use Rattle.std.proofs.lemmas.List.{length-map}
use Rattle.hlc_stamp.specs.declared.id.EventId.{EventId}
use Rattle.hlc_stamp.specs.Ids.{places_of}
use Rattle.hlc_log.proofs.CausalOrders.{length-order-le}
use Rattle.hlc_log.proofs.placing.Placing.place_all.Goals as goal

pub loop-smaller : goal.loop-smaller
loop-smaller c =
    let ids = c.place_some.new.self.order.items in
    let le = length-order-le c.args.log.now.events (places_of ids) c.in_ok-place_some.ensures.placing.causal in
    let size : length (places_of ids) ≡ length ids = length-map ids (λ (id : EventId). id.0) in
    let grows = c.in_ok-place_some.ensures.grows c.if-branch.true in
    omega arith
