use Rattle.std.proofs.Common.{◌≡◌, ◌∙◌, ◌+◌, ◌*◌, ℕ, List, length, arith, ap}
use Rattle.std.specs.Prelude.{slice_range}
use Rattle.hlc_explain.proofs.KeptCounts.{kept_event, part_is_vector, row_within}
use Rattle.hlc_explain.proofs.kept_vectors.Vectors.vector.Goals as goal

pub part-requires : goal.part-requires
part-requires c =
    let kept = c.self.inside in
    let lt = kept_event kept.nodes kept.events c.args.event.0 kept.counts.items c.args.self.now c.self.view_is c.requires in
    let row = row_within c.args.event.0 kept.events kept.nodes lt in
    let start = c.place_of-start.ensures in
    let len = c.self.invariant in
    let all = ap (λ (xs : List ℕ). length xs) c.deref.ensures.value in
    let items = kept.counts.ok.0 in
    omega arith

pub returns : goal.returns
returns c =
    let kept = c.self.inside in
    let lt = kept_event kept.nodes kept.events c.args.event.0 kept.counts.items c.args.self.now c.self.view_is c.requires in
    let start : c.place_of-start.result ≡ c.args.event.0 * kept.nodes = omega (arith, c.place_of-start.ensures) in
    c.part.ensures
    ∙ ap (λ (xs : List ℕ). slice_range xs c.place_of-start.result (c.place_of-start.result + kept.nodes)) c.deref.ensures.value
    ∙ part_is_vector kept.nodes kept.events c.args.event.0 c.place_of-start.result kept.counts.items c.args.self.now c.self.view_is start lt
