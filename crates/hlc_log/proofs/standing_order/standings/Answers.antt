use Rattle.std.proofs.Common.{◌≡◌, ◌∙◌, ℕ, suc, ◌+◌, List, length, [], ◌∷◌, ◌++◌, arith, map, sym, ap}
use Rattle.std.proofs.lemmas.List.{map_push}
use Rattle.hlc_causality.specs.Places.{places_below}
use Rattle.hlc_log.specs.declared.standing_order.Standing.{Standing}
use Rattle.hlc_log.specs.StandingOrder.{standing_at}
use Rattle.hlc_log.proofs.standing_order.standings.Goals as goal

pub loop-place-init : goal.loop-place-init
loop-place-init c = c.in_ok-standings.ensures.items

pub loop-place-preserved : goal.loop-place-preserved
loop-place-preserved c =
    let events = c.args.log.now.events in
    let place = c.loop-place.place in
    let next : Standing = record { seq = c.seq_at.result; place = record { 0 = place } } in
    let longer : place + 1 ≡ suc place = omega arith in
    c.in_ok-push.ensures.items
    ∙ ap (λ (xs : List Standing). xs ++ next ∷ []) c.loop-place.invariant
    ∙ ap (λ (seq : ℕ). map (standing_at events) (places_below place) ++ record { seq = seq; place = record { 0 = place } } ∷ []) c.seq_at.ensures
    ∙ sym (map_push (standing_at events) (places_below place) place)
    ∙ ap (λ (n : ℕ). map (standing_at events) (places_below n)) (sym longer)

pub returns : goal.returns
returns c =
    let end = c.loop-place-test.false in
    let in_range = c.loop-place.auto.place-end in
    let all : c.loop-place.place ≡ length c.args.log.now.events = omega (arith, c.len-place-end.ensures.value) in
    c.loop-place.invariant ∙ ap (λ (n : ℕ). map (standing_at c.args.log.now.events) (places_below n)) all
