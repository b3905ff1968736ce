use Rattle.std.proofs.Common.{rules, ℕ, inl, inr, List, arith, subst, sym, ◌∙◌}
use Rattle.std.specs.List.{Contains}
use Rattle.hlc_causality.specs.Causality.{IsSendOf}
use Rattle.hlc_causality.specs.Neighbours.{deliveries_of}
use Rattle.hlc_explain.specs.Marks.{IsMarked}
use Rattle.hlc_explain.proofs.InfluenceSteps.{all_yielded, comes_to_delivery, delivery_marked, left_more, next_marked}
use Rattle.hlc_explain.proofs.influence.mark_successors.Goals as goal

pub loop-delivery-init : goal.loop-delivery-init
loop-delivery-init c =
    let s = c.args.execution.now.events in
    let event = c.args.event.0 in
    let first = c.args.first.0 in
    let before = IsMarked first c.args.marks.now.items in
    let after = IsMarked first c.mark.new.marks.items in
    record {
      left = c.into_iter-delivery-iterator.ensures.into_iter_gives ∙ c.deliveries-delivery-items.ensures.all;
      len = c.mark.ensures.len;
      marked = next_marked s first event c.requires.from c.next_at_node.result c.next_at_node.ensures before after c.mark.ensures.marked;
    }

pub mark-requires-in-loop-delivery : goal.mark-requires-in-loop-delivery
mark-requires-in-loop-delivery c =
    let s = c.args.execution.now.events in
    let event = c.args.event.0 in
    let h = c.loop-delivery.invariant in
    let left = c.loop-delivery.delivery-iterator in
    let delivery = c.in-Some.delivery in
    let found = c.deliveries-delivery-items.ensures in
    let steps = c.in-Some.ensures.steps in
    let sends : IsSendOf s event delivery.0 =
    comes_to_delivery s event (deliveries_of s event) _ left c.next.new.self c.loop-delivery.yielded delivery found.all found.complete h.left steps in
    let within = sends.exists in
    let to = c.requires.to in
    let len = h.len in
    omega arith

pub loop-delivery-preserved : goal.loop-delivery-preserved
loop-delivery-preserved c =
    let s = c.args.execution.now.events in
    let event = c.args.event.0 in
    let first = c.args.first.0 in
    let h = c.loop-delivery.invariant in
    let yielded = c.loop-delivery.yielded in
    let delivery = c.in-Some.delivery in
    let all = deliveries_of s event in
    let left = c.loop-delivery.delivery-iterator in
    let found = c.deliveries-delivery-items.ensures in
    let steps = c.in-Some.ensures.steps in
    let sends : IsSendOf s event delivery.0 =
    comes_to_delivery s event all _ left c.next.new.self yielded delivery found.all found.complete h.left steps in
    let before = IsMarked first c.args.marks.now.items in
    let so_far = IsMarked first c.loop-delivery.marks.items in
    let after = IsMarked first c.mark-in-loop-delivery.new.marks.items in
    record {
      left = left_more all left c.next.new.self yielded delivery h.left steps;
      len = c.mark-in-loop-delivery.ensures.len ∙ h.len;
      marked = delivery_marked s first event c.requires.from yielded delivery sends before so_far after h.marked (search rules);
    }

pub returns-clause-marked : goal.returns-clause-marked
returns-clause-marked c = λ e.
    let s = c.args.execution.now.events in
    let event = c.args.event.0 in
    let h = c.loop-delivery.invariant in
    let left = c.loop-delivery.delivery-iterator in
    let whole = all_yielded (deliveries_of s event) left c.loop-delivery.yielded h.left c.in-None.ensures.steps.0 in
    let all = c.deliveries-delivery-items.ensures.all in (
      λ marked. elim ((h.marked e).0 marked) [
        | inl before ↦ inl before
        | inr is ↦ elim is [ inl previous ↦ inr (inl previous) | inr sent ↦ inr (inr sent.1) ]
      ],
      λ is. elim is [
        | inl before ↦ (h.marked e).1 (inl before)
        | inr direct ↦ elim direct [
          | inl previous ↦ (h.marked e).1 (inr (inl previous))
          | inr sent ↦
              (h.marked e).1 (inr (inr (
                subst (λ (xs : List ℕ). Contains xs e) (all ∙ sym whole) ((c.deliveries-delivery-items.ensures.complete e).1 sent),
                sent,
              )))
        ]
      ],
    )

pub returns-clause-len : goal.returns-clause-len
returns-clause-len c = c.loop-delivery.invariant.len
