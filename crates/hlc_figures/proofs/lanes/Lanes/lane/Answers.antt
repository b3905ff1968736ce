use Rattle.std.proofs.Common.{◌∙◌, List, ℕ, ap, subst, sym}
use Rattle.std.specs.List.Sorted.{IsBinarySearchResult}
use Rattle.std.specs.Ordering.{nat_cmp}
use Rattle.hlc_figures.specs.Lanes.{lane_of}
use Rattle.hlc_figures.proofs.NodeLanes.{lane_found}
use Rattle.hlc_figures.proofs.lanes.Lanes.lane.Goals.{in-Ok, in-Ok-2}
use Rattle.hlc_figures.proofs.lanes.Lanes.lane.Goals as goal

pub returns : goal.returns
returns c =
    let node = c.args.node.0 in
    let search_result = subst (λ (xs : List ℕ). IsBinarySearchResult (λ y. nat_cmp y node) xs c.binary_search.result) c.deref.ensures.value
    c.binary_search.ensures.position in
    let found = λ (place : ℕ). lane_found c.self.inside.nodes.items c.args.node.0 c.self.invariant.rising c.binary_search.result place search_result in
    let same = ap (λ (xs : List ℕ). lane_of xs node) c.self.view_is in
    elim c.match-binary_search.branch [
      | in-Ok w ↦ w.place-is ∙ sym (found w.in-Ok.place w.in-Ok.is) ∙ same
      | in-Ok-2 w ↦ w.place-is ∙ sym (found w.in-Ok.place w.in-Ok.is) ∙ same
    ]
