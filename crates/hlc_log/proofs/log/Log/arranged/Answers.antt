use Rattle.std.proofs.Common.{◌∙◌, List, [], ◌∷◌, ◌++◌, length, take, get_or, arith, sym, ap}
use Rattle.std.proofs.lemmas.List.{length-map, length-take-le, map_more, map_push, take_all}
use Rattle.hlc_stamp.specs.declared.id.EventId.{EventId}
use Rattle.hlc_stamp.specs.Ids.{places_of}
use Rattle.hlc_log.specs.declared.log_event.LogEvent.{LogEvent}
use Rattle.hlc_log.specs.Events.{event_at}
use Rattle.hlc_log.specs.StandingOrder.{arranged}
use Rattle.hlc_log.proofs.log.Log.arranged.Goals as goal

pub loop-place-init : goal.loop-place-init
loop-place-init c = c.new-log.ensures

pub push-requires : goal.push-requires
push-requires c =
    let events = c.args.self.now.events in
    let so_far = take c.loop-place.place-index c.args.places.now in
    let size = ap (λ (xs : List LogEvent). length xs) c.loop-place.invariant in
    let mapped = length-map (places_of so_far) (event_at events) in
    let ids = length-map so_far (λ (id : EventId). id.0) in
    let taken = length-take-le c.loop-place.place-index c.args.places.now (omega (arith, c.loop-place-test.true)) in
    record { few = omega (arith, size, mapped, ids, taken, c.loop-place-test.true, c.requires.few) }

pub loop-place-preserved : goal.loop-place-preserved
loop-place-preserved c =
    let events = c.args.self.now.events in
    let places = c.args.places.now in
    let k = c.loop-place.place-index in
    let so_far = places_of (take k places) in
    let id : EventId = get_or places k (record { 0 = 0 }) in
    c.in_ok-push.ensures.events
    ∙ ap (λ (xs : List LogEvent). xs ++ c.at.result ∷ []) c.loop-place.invariant
    ∙ ap (λ (event : LogEvent). arranged events so_far ++ event ∷ []) c.at.ensures
    ∙ sym (map_push (event_at events) so_far id.0)
    ∙ ap (arranged events) (sym (map_more (λ (id : EventId). id.0) places k (record { 0 = 0 }) c.loop-place-test.true))

pub returns : goal.returns
returns c =
    let end = c.loop-place-test.false in
    let within = c.loop-place.auto.place-index-end in
    c.loop-place.invariant ∙ ap (λ (ids : List EventId). arranged c.args.self.now.events (places_of ids)) (take_all c.loop-place.place-index c.args.places.now (omega arith))
