use Rattle.std.proofs.Common.{◌∙◌, List, ap, map, rules}
use Rattle.std.proofs.lemmas.List.Sorted.{answers_always}
use Rattle.hlc_log_picture.specs.declared.stamp_order.Row.{Row}
use Rattle.hlc_log_picture.proofs.StampOrders.{sorted_is_causal, sorted_is_ranked}
use Rattle.hlc_log_picture.proofs.stamp_order.stamp_order.Goals as goal

pub returns-clause-causal : goal.returns-clause-causal
returns-clause-causal c =
    let up = c.sort_unstable_by_key.ensures.sorted (λ row. row.rank) (answers_always _ _ _ (λ f a r g h. search rules)) in
    let ids = c.in_ok-order.ensures ∙ ap (λ (rows : List Row). map (λ (row : Row). row.place) rows) c.deref.ensures.value in
    sorted_is_causal c.args.log.now c.requires c.len-ordered.ensures.ordered c.in_ok-rows.rows.items c.sort_unstable_by_key.new.self.items c.in_ok-rows.ensures
    c.sort_unstable_by_key.ensures.permutation up c.tests_are_the_order.ensures.ranks c.in_ok-order.order.items ids

pub returns-clause-ranked : goal.returns-clause-ranked
returns-clause-ranked c =
    let up = c.sort_unstable_by_key.ensures.sorted (λ row. row.rank) (answers_always _ _ _ (λ f a r g h. search rules)) in
    let ids = c.in_ok-order.ensures ∙ ap (λ (rows : List Row). map (λ (row : Row). row.place) rows) c.deref.ensures.value in
    sorted_is_ranked c.args.log.now c.requires c.len-ordered.ensures.ordered c.in_ok-rows.rows.items c.sort_unstable_by_key.new.self.items c.in_ok-rows.ensures
    c.sort_unstable_by_key.ensures.permutation up c.tests_are_the_order.ensures.ranks c.in_ok-order.order.items ids
