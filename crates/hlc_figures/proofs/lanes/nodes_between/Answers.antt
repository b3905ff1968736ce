use Rattle.std.proofs.Common.{◌≡◌, ◌∙◌, ℕ, ◌-◌, ◌++◌, ◌∷◌, [], List, ap, arith, map, sym}
use Rattle.std.proofs.lemmas.List.{map_push}
use Rattle.hlc_figures.specs.Columns.{places_from}
use Rattle.hlc_figures.specs.Content.{node_at}
use Rattle.hlc_figures.proofs.Places.{places_from-more}
use Rattle.hlc_figures.proofs.lanes.nodes_between.Goals as goal

pub loop-place-preserved : goal.loop-place-preserved
loop-place-preserved g c =
    let node = node_at (g.S.Subject.content c.args.subject.now) in
    let place = c.loop-place.place in
    let before = places_from c.args.first (place - c.args.first) in
    c.in_ok-push.ensures.items ∙ ap (λ (nodes : List ℕ). nodes ++ c.node.result.0 ∷ []) c.loop-place.invariant
    ∙ ap (λ (n : ℕ). map node before ++ n ∷ []) c.node.ensures.node ∙ sym (map_push node before place)
    ∙ ap (map node) (sym (places_from-more c.args.first place c.loop-place.auto.place))

pub returns : goal.returns
returns g c =
    let count : c.loop-place.place - c.args.first ≡ c.args.end - c.args.first = omega arith in
    c.loop-place.invariant ∙ ap (λ (n : ℕ). map (node_at (g.S.Subject.content c.args.subject.now)) (places_from c.args.first n)) count
