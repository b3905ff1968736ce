use Rattle.std.proofs.Common.{◌∙◌, ◌++◌, ◌∷◌, [], Bool, List, ap, cond, sym}
use Rattle.std.proofs.lemmas.List.{map_push}
use Rattle.hlc_stamp.specs.declared.id.EventId.{EventId}
use Rattle.hlc_stamp.specs.Ids.{places_of}
use Rattle.hlc_log.proofs.parted.push_if.Goals as goal

pub returns-in_ok-push : goal.returns-in_ok-push
returns-in_ok-push c =
    ap (λ (ids : List EventId). places_of ids) c.in_ok-push.ensures.items ∙ map_push (λ (id : EventId). id.0) c.args.places.now.items c.args.place
    ∙ ap (λ (is : Bool). places_of c.args.places.now.items ++ cond is (c.args.place.0 ∷ []) []) (sym c.if-is_one.true)
