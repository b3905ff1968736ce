use Rattle.std.proofs.Common.{◌∙◌, ◌*◌, ℕ, List, length, arith, refl, sym, ap, subst}
use Rattle.std.proofs.lemmas.List.{length_push}
use Rattle.hlc_explain.specs.Counts.{AreCounts}
use Rattle.hlc_explain.proofs.KeptCounts.{counts_more, greatest_is, linked_at_most, next_count_is, previous_within, send_within}
use Rattle.hlc_explain.proofs.counting.push_vector.Goals as goal

pub loop-node-init : goal.loop-node-init
loop-node-init c =
    let same = c.nodes-nodes.ensures in
    let product = ap (λ (n : ℕ). c.args.event.0 * n) same in
    record {
      len = let next = c.requires.next in omega arith;
      capacity = refl;
      counts = subst (λ (n : ℕ). AreCounts c.args.execution.now.events n c.args.counts.now.items) (sym same) c.requires.counts;
    }

pub linked_count-before-requires-clause-within : goal.linked_count-before-requires-clause-within
linked_count-before-requires-clause-within c =
    let s = c.args.execution.now.events in
    let nodes = c.nodes-nodes.result in
    let len = c.loop-node.invariant.len in
    let all = ap (λ (xs : List ℕ). length xs) c.deref.ensures.value in
    previous_within s c.args.event.0 nodes (length c.deref.result.now) c.previous-previous.result c.previous-previous.ensures (omega arith)

pub linked_count-sent-requires-clause-within : goal.linked_count-sent-requires-clause-within
linked_count-sent-requires-clause-within c =
    let s = c.args.execution.now.events in
    let nodes = c.nodes-nodes.result in
    let len = c.loop-node.invariant.len in
    let all = ap (λ (xs : List ℕ). length xs) c.deref-in-loop-node.ensures.value in
    send_within s c.args.event.0 nodes (length c.deref-in-loop-node.result.now) c.send-send.result c.send-send.ensures (omega arith)

pub with_own-count-requires : goal.with_own-count-requires
with_own-count-requires c =
    let s = c.args.execution.now.events in
    let node = c.loop-node.node in
    let h = c.loop-node.invariant in
    let greatest = greatest_is s c.args.event.0 c.nodes-nodes.result node c.loop-node.counts.items h.len c.loop-node-test.true h.counts
    c.previous-previous.result c.send-send.result c.deref.result.now c.deref-in-loop-node.result.now c.linked_count-before.result
    c.linked_count-sent.result c.max.result c.deref.ensures.value c.deref-in-loop-node.ensures.value c.previous-previous.ensures
    c.send-send.ensures c.linked_count-before.ensures c.linked_count-sent.ensures (omega (arith, c.max.ensures)) in
    let most = linked_at_most s c.previous-previous.result node in
    let also_most = linked_at_most s c.send-send.result node in
    let few = c.requires.well_formed.few in
    omega arith

pub push_reserved-requires : goal.push_reserved-requires
push_reserved-requires c =
    let same = c.nodes-nodes.ensures in
    let product = ap (λ (n : ℕ). c.args.event.0 * n) same in
    let h = c.loop-node.invariant in
    omega (arith, h.len, h.capacity, c.requires.room, c.loop-node-test.true)

pub loop-node-preserved : goal.loop-node-preserved
loop-node-preserved c =
    let s = c.args.execution.now.events in
    let e = c.args.event.0 in
    let nodes = c.nodes-nodes.result in
    let node = c.loop-node.node in
    let below = c.loop-node-test.true in
    let h = c.loop-node.invariant in
    let items = c.loop-node.counts.items in
    let greatest = greatest_is s e nodes node items h.len below h.counts c.previous-previous.result c.send-send.result c.deref.result.now
    c.deref-in-loop-node.result.now c.linked_count-before.result c.linked_count-sent.result c.max.result c.deref.ensures.value
    c.deref-in-loop-node.ensures.value c.previous-previous.ensures c.send-send.ensures c.linked_count-before.ensures
    c.linked_count-sent.ensures (omega (arith, c.max.ensures)) in
    let count = next_count_is s e node c.node_of-own.result.0 c.max.result c.previous-previous.result c.send-send.result c.requires.exists
    c.previous-previous.ensures c.send-send.ensures c.node_of-own.ensures greatest in
    let x = c.with_own-count.result in
    let pushed = c.push_reserved.ensures.items in
    record {
      len =
          let longer = length_push items x in
          let len = h.len in
          let all = ap (λ (xs : List ℕ). length xs) pushed in
          omega arith;
      capacity = c.push_reserved.ensures.capacity ∙ h.capacity;
      counts =
          subst (λ (xs : List ℕ). AreCounts s nodes xs) (sym pushed)
          (counts_more s nodes e node x items h.len below h.counts (c.with_own-count.ensures ∙ count));
    }

pub returns-clause-len : goal.returns-clause-len
returns-clause-len c =
    let same = c.nodes-nodes.ensures in
    let product = ap (λ (n : ℕ). c.args.event.0 * n) same in
    let h = c.loop-node.invariant in
    omega (arith, h.len, c.loop-node-test.false, c.loop-node.auto.node-end)

pub returns-clause-counts : goal.returns-clause-counts
returns-clause-counts c =
    subst (λ (n : ℕ). AreCounts c.args.execution.now.events n c.loop-node.counts.items) c.nodes-nodes.ensures c.loop-node.invariant.counts
