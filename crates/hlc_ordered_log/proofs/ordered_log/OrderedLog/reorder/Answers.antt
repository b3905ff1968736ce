use Rattle.std.proofs.Common.{ℕ, List, length, arith, subst, sym, ap}
use Rattle.hlc_stamp.specs.Ids.{places_of}
use Rattle.hlc_stamp.specs.declared.id.EventId.{EventId}
use Rattle.hlc_log.proofs.CausalOrders.{places_differ}
use Rattle.hlc_ordered_log.specs.InOrder.{AreParts, ArePositions, EachDiffers, IsExecutionOf, LogInOrder}
use Rattle.hlc_ordered_log.proofs.EventsInOrder.{parts_in_order}
use Rattle.hlc_ordered_log.proofs.Ordering.{named_len}
use Rattle.hlc_ordered_log.proofs.OtherOrders.{reordered_parts}
use Rattle.hlc_ordered_log.proofs.ordered_log.OrderedLog.reorder.Goals as goal

pub positions_in-requires-clause-differ : goal.positions_in-requires-clause-differ
positions_in-requires-clause-differ c =
    subst (λ (xs : List EventId). EachDiffers (places_of xs)) (sym c.deref.ensures.value)
    (places_differ c.args.self.now.events (places_of c.args.order.items) c.requires.causal)

pub positions_in-requires-clause-few : goal.positions_in-requires-clause-few
positions_in-requires-clause-few c =
    let size = named_len c.args.self.now.events c.args.order.items c.requires in
    let most = c.len.ensures.ordered.few in
    let same = ap (λ (xs : List EventId). length xs) c.deref.ensures.value in
    omega arith

parts : (c : goal.After-drop-self-inside-5) → AreParts c.self.inside.log c.args.order.items c.in_ok-positions.positions.items c.in_ok-execution.execution
parts c =
    let log = c.args.self.now in
    let made = c.in_ok-execution.ensures in
    let execution = c.in_ok-execution.execution in
    let positions = c.in_ok-positions.positions.items in
    reordered_parts log c.len.ensures.ordered c.self.inside.log (ap (λ (l : LogInOrder). l.events) c.self.view_is) c.args.order.items positions execution
    c.requires
    (subst (λ (n : ℕ). ArePositions (places_of c.args.order.items) n positions) c.len.ensures.value
    (subst (λ (xs : List EventId). ArePositions (places_of xs) c.len.result positions) c.deref.ensures.value c.in_ok-positions.ensures))
    (subst (λ (xs : List EventId). IsExecutionOf log.events (places_of xs) execution) c.deref-2.ensures.value made.execution)
    made.receives made.nodes

pub invariant_of-self : goal.invariant_of-self
invariant_of-self c = parts c

pub returns-clause-ordered : goal.returns-clause-ordered
returns-clause-ordered c = parts_in_order _ _ _ _ (parts c)
