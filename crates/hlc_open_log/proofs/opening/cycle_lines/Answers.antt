use Rattle.std.proofs.Common.{◌∙◌, List, [], ◌∷◌, ◌++◌, ap, arith, get_or, map, sym, take}
use Rattle.std.proofs.lemmas.List.{map_more, map_push, take_all}
use Rattle.hlc_stamp.specs.declared.id.EventId.{EventId}
use Rattle.hlc_stamp.specs.Ids.{places_of}
use Rattle.hlc_log.specs.declared.log_event.LogEvent.{LogEvent}
use Rattle.hlc_log_text.specs.declared.bad_log.BadLine.{BadLine}
use Rattle.hlc_log_text.specs.declared.bad_log.BadLog.TheVariants as bad
use Rattle.hlc_open_log.specs.Opened.{cycle_line}
use Rattle.hlc_open_log.proofs.opening.cycle_lines.Goals as goal

pub at-requires : goal.at-requires
at-requires c = c.requires c.loop-place.place-index (record { 0 = 0 }) c.loop-place-test.true

pub loop-place-preserved : goal.loop-place-preserved
loop-place-preserved c =
    let events = c.args.log.now.events in
    let places = c.args.places.now in
    let k = c.loop-place.place-index in
    let none : EventId = record { 0 = 0 } in
    let so_far = places_of (take k places) in
    let line : LogEvent → BadLine = λ event. record { line = event.line; why = bad.Cycle } in
    c.in_ok-push.ensures.items
    ∙ ap (λ (lines : List BadLine). lines ++ line c.at.result ∷ []) c.loop-place.invariant
    ∙ ap (λ (event : LogEvent). map (cycle_line events) so_far ++ line event ∷ []) c.at.ensures
    ∙ sym (map_push (cycle_line events) so_far (get_or places k none).0)
    ∙ ap (map (cycle_line events)) (sym (map_more (λ (place : EventId). place.0) places k none c.loop-place-test.true))

pub returns : goal.returns
returns c =
    let end = c.loop-place-test.false in
    let within = c.loop-place.auto.place-index-end in
    c.loop-place.invariant
    ∙ ap (λ (ids : List EventId). map (cycle_line c.args.log.now.events) (places_of ids)) (take_all c.loop-place.place-index c.args.places.now (omega arith))
