use Rattle.std.proofs.Common.{◌∙◌, ℕ, List, ap, arith, filter}
use Rattle.std.proofs.lemmas.List.Filters.{dedup_is}
use Rattle.hlc_stamp.specs.Ids.{is_among}
use Rattle.hlc_causality.specs.Places.{places_below}
use Rattle.hlc_figures.proofs.NodeLanes.{lanes_few, lanes_passed, lanes_rise}
use Rattle.hlc_figures.proofs.lanes.in_order.Goals as goal

pub invariant_of-result : goal.invariant_of-result
invariant_of-result g c =
    let n = (g.S.Subject.content c.args.subject.now).nodes in
    let once = dedup_is _ _ _ c.dedup.ensures.filtered in
    let moved = c.sort_unstable.ensures.permutation in
    record {
      rising = lanes_rise n c.args.nodes.items _ _ c.requires.exist moved c.sort_unstable.ensures.sorted once;
      few = lanes_few n c.args.nodes.items _ _ c.requires.exist moved c.sort_unstable.ensures.sorted once (omega arith);
    }

pub returns : goal.returns
returns g c =
    let n = (g.S.Subject.content c.args.subject.now).nodes in
    let once = dedup_is _ _ _ c.dedup.ensures.filtered in
    let passed = lanes_passed n c.args.nodes.items _ _ c.requires.exist c.sort_unstable.ensures.permutation c.sort_unstable.ensures.sorted once in
    λ places are. rw c.requires.some (passed ∙ ap (λ (nodes : List ℕ). filter (λ node. is_among nodes node) (places_below n)) are)
