use Rattle.std.proofs.Common.{◌∙◌, ◌<◌, ℕ, length, arith, subst, sym, ap}
use Rattle.std.proofs.lemmas.List.{length-map}
use Rattle.hlc_stamp.specs.Ids.{places_of}
use Rattle.hlc_stamp.specs.declared.id.EventId.{EventId}
use Rattle.hlc_log.specs.Events.{event_at}
use Rattle.hlc_ordered_log.proofs.Ordering.{claimed_at, place_here}
use Rattle.hlc_ordered_log.proofs.giving.ClaimsInOrderClaims.stamp.Goals as goal

-- the event has a place in the order
within : (c : goal.After-stamp_at-arg-1) → c.args.event.0 < length (places_of c.args.self.now.order.now)
within c =
    let claims = c.args.self.now in
    let exists = c.requires in
    let size = length-map (places_of claims.order.now) (λ (e : ℕ). (event_at claims.log.now.events e).stamp) in
    omega arith

pub stamp_at-requires : goal.stamp_at-requires
stamp_at-requires c =
    let claims = c.args.self.now in
    let lt = within c in
    let size = length-map claims.order.now (λ (id : EventId). id.0) in
    subst (λ (e : ℕ). e < length claims.log.now.events) (place_here claims.order.now c.args.event.0 (omega arith))
    (claims.exist c.args.event.0 lt)

pub returns : goal.returns
returns c =
    let claims = c.args.self.now in
    let exists = c.requires in
    let mapped = length-map (places_of claims.order.now) (λ (e : ℕ). (event_at claims.log.now.events e).stamp) in
    let size = length-map claims.order.now (λ (id : EventId). id.0) in
    let lt : c.args.event.0 < length claims.order.now = omega arith in
    c.stamp_at.ensures
    ∙ ap (λ (e : ℕ). (event_at claims.log.now.events e).stamp) (sym (place_here claims.order.now c.args.event.0 lt))
    ∙ sym (claimed_at claims.log.now.events (places_of claims.order.now) c.args.event.0 (omega arith))
