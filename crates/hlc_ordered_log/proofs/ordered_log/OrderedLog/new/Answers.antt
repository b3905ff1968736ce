use Rattle.std.proofs.Common.{◌≡◌, ◌∙◌, ◌≤◌, ℕ, List, length, arith, subst, sym, ap}
use Rattle.hlc_stamp.specs.Ids.{places_of}
use Rattle.hlc_stamp.specs.declared.id.EventId.{EventId}
use Rattle.hlc_log.specs.declared.log_event.TheConstants.{MAX_LOG_NODES}
use Rattle.hlc_log.proofs.CausalOrders.{places_differ}
use Rattle.hlc_ordered_log.specs.InOrder.{AreOfNodes, AreParts, ArePositions, EachDiffers, IsExecutionOf, IsGivenStamps, log_in_order}
use Rattle.hlc_ordered_log.proofs.Filled.{filled_causal, filled_execution, filled_in_range, filled_of_nodes, filled_sound}
use Rattle.hlc_ordered_log.proofs.EventsInOrder.{parts_in_order}
use Rattle.hlc_ordered_log.proofs.Ordering.{named_len}
use Rattle.hlc_ordered_log.proofs.ordered_log.OrderedLog.new.Goals as goal

pub positions_in-requires-clause-differ : goal.positions_in-requires-clause-differ
positions_in-requires-clause-differ c =
    subst (λ (xs : List EventId). EachDiffers (places_of xs)) (sym c.deref-2.ensures.value)
    (places_differ c.args.log.events (places_of c.args.order.items) c.requires.order.causal)

pub positions_in-requires-clause-few : goal.positions_in-requires-clause-few
positions_in-requires-clause-few c =
    let size = named_len c.args.log.events c.args.order.items c.requires.order in
    let most = c.len-events.ensures.few in
    let many = c.len-events.ensures.value in
    let same = ap (λ (xs : List EventId). length xs) c.deref-2.ensures.value in
    omega arith

-- the parts of the log agree, once its stamps are given
parts : (c : goal.After-give_stamps) → AreParts c.give_stamps.new.log c.args.order.items c.in_ok-positions.positions.items c.in_ok-execution.execution
parts c =
    let events = c.args.log.events in
    let more = c.give_stamps.new.log.events in
    let are = c.give_stamps.ensures.filled in
    let size = are.one_each in
    let few = c.len-events.ensures.few in
    let many : c.len-events.result ≡ length more = c.len-events.ensures.value ∙ sym size in
    let positions = c.in_ok-positions.positions.items in
    record {
      few = omega arith;
      few_nodes = subst (λ (n : ℕ). n ≤ MAX_LOG_NODES) (sym c.in_ok-execution.ensures.nodes) c.requires.few;
      of_nodes =
          filled_of_nodes events more are c.in_ok-execution.execution.nodes
          (subst (λ (n : ℕ). AreOfNodes n events) (sym c.in_ok-execution.ensures.nodes) c.requires.named);
      in_range = filled_in_range events more are c.requires.in_range;
      messages = filled_sound events more are c.requires.sound;
      causal = filled_causal events more are (places_of c.args.order.items) c.requires.order;
      positions_are =
          subst (λ (n : ℕ). ArePositions (places_of c.args.order.items) n positions) many
          (subst (λ (xs : List EventId). ArePositions (places_of xs) c.len-events.result positions) c.deref-2.ensures.value c.in_ok-positions.ensures);
      execution_is =
          filled_execution events more are c.requires.in_range (places_of c.args.order.items) c.in_ok-execution.execution
          (subst (λ (xs : List EventId). IsExecutionOf events (places_of xs) c.in_ok-execution.execution) c.deref.ensures.value
          c.in_ok-execution.ensures.execution);
      given =
          subst (λ (xs : List EventId). IsGivenStamps (log_in_order c.give_stamps.new.log xs c.in_ok-execution.execution)) c.deref-3.ensures.value
          c.give_stamps.ensures.given;
    }

pub invariant_of-result : goal.invariant_of-result
invariant_of-result c = parts c

pub returns-clause-ordered : goal.returns-clause-ordered
returns-clause-ordered c = parts_in_order _ _ _ _ (parts c)
