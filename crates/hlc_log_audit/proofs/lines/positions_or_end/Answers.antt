use Rattle.std.proofs.Common.{◌≡◌, ◌∙◌, ◌++◌, [], ◌∷◌, ◌+◌, ℕ, List, ap, get_or, map, sym, take}
use Rattle.std.proofs.lemmas.List.{map_push, take_more}
use Rattle.hlc_stamp.specs.Ids.{places_of}
use Rattle.hlc_stamp.specs.declared.id.EventId.{EventId}
use Rattle.hlc_log_text.specs.declared.location.Location.{Location}
use Rattle.hlc_log_audit.specs.Answers.{position_or_end}
use Rattle.hlc_log_audit.proofs.lines.positions_or_end.Goals as goal

pub loop-location-preserved : goal.loop-location-preserved
loop-location-preserved c =
    let at = position_or_end c.args.files.now c.args.log.now in
    let locations = c.args.locations.now in
    let i = c.loop-location.location-index in
    let here = c.location-item.result in
    let so_far = map at (take i locations) in
    let more : map at (take (i + 1) locations) ≡ so_far ++ at here ∷ [] =
    ap (map at) (take_more locations i here c.loop-location-test.true) ∙ map_push at (take i locations) (get_or locations i here)
    ∙ ap (λ (x : Location). so_far ++ at x ∷ []) (sym c.location-item.is) in
    let found = c.position_or_end.result in
    ap places_of c.in_ok-push.ensures.items ∙ map_push (λ (id : EventId). id.0) c.loop-location.events.items found
    ∙ ap (λ (xs : List ℕ). xs ++ found.0 ∷ []) c.loop-location.invariant ∙ ap (λ (n : ℕ). so_far ++ n ∷ []) c.position_or_end.ensures ∙ sym more
