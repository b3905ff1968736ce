use Rattle.std.proofs.Common.{◌∙◌, ◌++◌, ◌∷◌, [], Bool, List, ℕ, add-one, cond, ap, sym}
use Rattle.std.specs.List.{filter}
use Rattle.hlc_causality.specs.Places.{places_below}
use Rattle.hlc_causality.proofs.PlacesBelow.{filter-places_more}
use Rattle.hlc_log.specs.Parted.{is_marked}
use Rattle.hlc_log.proofs.parted.marked.Goals as goal

pub loop-place-preserved : goal.loop-place-preserved
loop-place-preserved c =
    let marks = c.args.marks.now in
    let place = c.loop-place.place in
    let passes = is_marked marks c.args.mark in
    c.in_ok-push_if.ensures
    ∙ ap (λ (places : List ℕ). places ++ cond c.has_mark.result (place ∷ []) []) c.loop-place.invariant
    ∙ ap (λ (is : Bool). filter passes (places_below place) ++ cond is (place ∷ []) []) c.has_mark.ensures
    ∙ sym (filter-places_more passes place)
    ∙ ap (λ (n : ℕ). filter passes (places_below n)) (sym (add-one place))
