-- One log in two causal orders.
use Rattle.std.proofs.Common.{◌≡◌, ◌∙◌, inr, false, ℕ, ◌<◌, ◌≤◌, List, length, Option, Some, None, arith, refl, subst, sym, ap}
use Rattle.std.specs.Prelude.{All, slice_index_or}
use Rattle.hlc_stamp.specs.Ids.{places_of}
use Rattle.hlc_stamp.specs.declared.id.EventId.{EventId}
use Rattle.hlc_stamp.specs.declared.limits.TheConstants.{MAX_CAPACITY}
use Rattle.hlc_log.specs.declared.log_event.TheConstants.{MAX_LOG_NODES}
use Rattle.hlc_causality.specs.declared.receives.Receives.{Receives}
use Rattle.hlc_causality.specs.Assignment.{pair_at}
use Rattle.hlc_causality.specs.Causality.{IsSendOf}
use Rattle.hlc_causality.specs.Predecessors.{send_of}
use Rattle.hlc_causality.proofs.PredecessorsFound.{Finds, send_found}
use Rattle.hlc_causality.proofs.ReceiveEvents.{clock_events_size}
use Rattle.hlc_causes.specs.Given.{given_at}
use Rattle.hlc_execution.specs.Execution.{StoredExecution}
use Rattle.hlc_log.specs.CausalOrder.{IsCausalOrder, place_at}
use Rattle.hlc_log.specs.Events.{IsInRange, event_at}
use Rattle.hlc_log.specs.Messages.{AreMessagesSound, EachIsSentOnce, SendsTo}
use Rattle.hlc_log.specs.Log.{StoredLog}
use Rattle.hlc_log.specs.OrderSkeleton.{index_in, rules_in, skeleton_in}
use Rattle.hlc_log.specs.Reordering.{IsClockReordering, IsReordering}
use Rattle.hlc_log.specs.declared.log_event.LogEvent.{LogEvent}
use Rattle.hlc_log.proofs.Agreement.{log_kept, own_kept, skeletons_reordered}
use Rattle.hlc_log.proofs.ClockReorderings.{rules_are_reordered}
use Rattle.hlc_log.proofs.OrderSkeletons.{length-skeleton_in, needed_before, place_exists, place_of_index, send_from_order, send_in_order, sends_are_named}
use Rattle.hlc_ordered_log.specs.InOrder.{AreOfNodes, AreParts, ArePositions, IsExecutionOf, IsGivenStamps, IsInOrder, LogInOrder, NamesSendIn, claimed_of, clocks_of, log_in_order, seen_of, stamp_told}
use Rattle.hlc_ordered_log.proofs.Ordering.{claimed_at, order_len, position_exists, position_place}
use Rattle.hlc_ordered_log.proofs.ReorderedTraces.{given_alike}

-- the stamps that are given
module _ (log other : LogInOrder) (receives : other.receives ≡ log.receives) (events : other.events ≡ log.events) (once : EachIsSentOnce log.events)
    (whole : IsCausalOrder log.events log.order) (other_whole : IsCausalOrder log.events other.order) where
  abbrev here : LogInOrder
  here = record other { receives = log.receives; events = log.events }

  -- where the event at a position of the one order stands in the other
  abbrev to : ℕ → ℕ
  to k = index_in other.order (place_at log.order k)

  abbrev back : ℕ → ℕ
  back k = index_in log.order (place_at other.order k)

  there : (k : ℕ) → k < length log.order → (to k < length other.order) × (place_at other.order (to k) ≡ place_at log.order k)
  there k lt = place_of_index log.events other.order other_whole (place_at log.order k) (place_exists log.events log.order whole k lt)

  links : IsReordering (skeleton_in log.events log.order) (skeleton_in log.events other.order) to back
  links =
      skeletons_reordered log.events log.events (λ e. e) (λ e. e)
      (record { there = log_kept log.events; here = log_kept log.events; back_here = λ e lt. refl; back_there = λ e lt. refl })
      once once log.order other.order whole other_whole

  clocks : IsClockReordering (clocks_of log) (clocks_of here) to back
  clocks =
      rules_are_reordered (rules_in log.receives log.events log.order) (rules_in log.receives log.events other.order)
      (skeleton_in log.events log.order) (skeleton_in log.events other.order) to back links
      (sends_are_named log.events log.order whole) (sends_are_named log.events other.order other_whole) refl
      (λ k lt. own_kept log.events log.events (λ e. e) (log_kept log.events) once log.order other.order whole other_whole log.receives k
      (omega (arith, lt, length-skeleton_in log.events log.order whole)))

  same_claim : (k : ℕ) → k < length log.order → pair_at (claimed_of log) k ≡ pair_at (claimed_of here) (to k)
  same_claim k lt =
      let at = there k lt in
      claimed_at log.events log.order k lt ∙ ap (λ (e : ℕ). (event_at log.events e).stamp) (sym at.1)
      ∙ sym (claimed_at log.events other.order (to k) at.0)

  abbrev IsGiven : ℕ → Type 0
  IsGiven k = stamp_told here k ≡ false → pair_at (claimed_of here) k ≡ given_at (clocks_of here) (seen_of here k) k

  given_there : IsGivenStamps log → (k : ℕ) → k < length log.order → IsGiven (to k)
  given_there given k lt untold =
      let at = there k lt in
      let size = length-skeleton_in log.events log.order whole in
      let sizes = clock_events_size (rules_in log.receives log.events log.order) (skeleton_in log.events log.order) in
      sym (same_claim k lt)
      ∙ given k lt (ap (λ (e : ℕ). (event_at log.events e).has_stamp) (sym at.1) ∙ untold)
      ∙ sym (given_alike log here to back clocks k (omega arith) (ap (λ (e : ℕ). (event_at log.events e).carried) at.1)
      (λ d less. same_claim d (omega arith)))

  given_here : IsGivenStamps log → IsGivenStamps here
  given_here given k lt =
      let size = length-skeleton_in log.events other.order other_whole in
      let from = place_of_index log.events log.order whole (place_at other.order k) (place_exists log.events other.order other_whole k lt) in
      subst IsGiven (links.back_there k (omega arith)) (given_there given (back k) from.0)

  pub given_stays : IsGivenStamps log → IsGivenStamps other
  given_stays given =
      subst (λ (es : List LogEvent). IsGivenStamps (record other { events = es })) (sym events)
      (subst (λ (r : Receives). IsGivenStamps (record other { receives = r; events = log.events })) (sym receives) (given_here given))

-- where the send stands of what the event at a position receives, by where it stands in the other order
module _ (events : List LogEvent) (once : EachIsSentOnce events) (order : List ℕ) (whole : IsCausalOrder events order) (q : ℕ) (q_lt : q < length order)
    (other : List EventId) (other_whole : IsCausalOrder events (places_of other)) (k : ℕ) (k_lt : k < length (places_of other))
    (same : place_at (places_of other) k ≡ place_at order q) where
  found : Finds (λ d. IsSendOf (skeleton_in events order) d q) (send_of (skeleton_in events order) q)
  found = send_found (skeleton_in events order) q (omega (arith, q_lt, length-skeleton_in events order whole))

  pub none_named : send_of (skeleton_in events order) q ≡ None → NamesSendIn events (places_of other) k None
  none_named is e sends =
      let (m, sent, received) = sends in
      let at = place_of_index events order whole e sent.exists in
      let here : SendsTo events (place_at order (index_in order e)) (place_at order q) =
      subst (λ (x : ℕ). SendsTo events x (place_at order q)) (sym at.1) (subst (SendsTo events e) same sends) in
      let none = subst (λ (o : Option ℕ). Finds (λ d. IsSendOf (skeleton_in events order) d q) o) is found in
      none (index_in order e) (send_from_order events order whole once (index_in order e) q at.0 q_lt here)

  pub one_named : (j : ℕ) → send_of (skeleton_in events order) q ≡ Some j → (positions : List EventId)
      → ArePositions (places_of other) (length events) positions → (none : EventId)
      → NamesSendIn events (places_of other) k (Some (slice_index_or positions (place_at order j) none).0)
  one_named j is positions are none =
      let send = subst (λ (o : Option ℕ). Finds (λ d. IsSendOf (skeleton_in events order) d q) o) is found in
      let sends = send_in_order events order whole j q send in
      let exists = place_exists events order whole j sends.0 in
      let p = (slice_index_or positions (place_at order j) none).0 in
      let place = position_place events other other_whole positions are (place_at order j) none exists in
      let within = position_exists events other other_whole positions are (place_at order j) none exists in
      let there : SendsTo events (place_at (places_of other) p) (place_at (places_of other) k) =
      subst (λ (x : ℕ). SendsTo events x (place_at (places_of other) k)) (sym place)
      (subst (SendsTo events (place_at order j)) (sym same) sends.2) in
      let p_lt : p < length (places_of other) = omega (arith, within, order_len events (places_of other) other_whole) in
      (needed_before events (places_of other) other_whole p k p_lt k_lt (inr there), there)

-- the parts of a log agree that is put into another order
module _ (log : LogInOrder) (ordered : IsInOrder log) (stored : StoredLog) (same : stored.events ≡ log.events) (order positions : List EventId)
    (x : StoredExecution) where
  pub reordered_parts : IsCausalOrder log.events (places_of order) → ArePositions (places_of order) (length log.events) positions
      → IsExecutionOf log.events (places_of order) x → x.rules.receives ≡ log.receives → x.nodes ≡ log.nodes → AreParts stored order positions x
  reordered_parts whole are is receives nodes = record {
    few = subst (λ (es : List LogEvent). length es ≤ MAX_CAPACITY) (sym same) ordered.few;
    few_nodes = subst (λ (n : ℕ). n ≤ MAX_LOG_NODES) (sym nodes) ordered.few_nodes;
    of_nodes = subst (AreOfNodes x.nodes) (sym same) (subst (λ (n : ℕ). AreOfNodes n log.events) (sym nodes) ordered.of_nodes);
    in_range = subst (All IsInRange) (sym same) ordered.in_range;
    messages = subst AreMessagesSound (sym same) ordered.messages;
    causal = subst (λ (es : List LogEvent). IsCausalOrder es (places_of order)) (sym same) whole;
    positions_are = subst (λ (es : List LogEvent). ArePositions (places_of order) (length es) positions) (sym same) are;
    execution_is = subst (λ (es : List LogEvent). IsExecutionOf es (places_of order) x) (sym same) is;
    given = given_stays log (log_in_order stored order x) receives same ordered.messages.once ordered.causal whole ordered.given;
  }
