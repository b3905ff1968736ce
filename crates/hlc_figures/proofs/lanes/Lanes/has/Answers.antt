use Rattle.std.proofs.Common.{◌∙◌, List, ℕ, ap, subst}
use Rattle.std.specs.List.Sorted.{IsBinarySearchResult}
use Rattle.std.specs.Ordering.{nat_cmp}
use Rattle.hlc_stamp.specs.Ids.{is_among}
use Rattle.hlc_figures.proofs.NodeLanes.{has_searched}
use Rattle.hlc_figures.proofs.lanes.Lanes.has.Goals as goal

pub returns : goal.returns
returns c =
    let node = c.args.node.0 in
    let search_result = subst (λ (xs : List ℕ). IsBinarySearchResult (λ y. nat_cmp y node) xs c.binary_search.result) c.deref.ensures.value
    c.binary_search.ensures.position in
    c.is_ok.ensures.value ∙ has_searched c.self.inside.nodes.items node c.self.invariant.rising c.binary_search.result search_result
    ∙ ap (λ (xs : List ℕ). is_among xs node) c.self.view_is
