-- The events of a log in order, and the stamps that are claimed for them.
use Rattle.std.proofs.Common.{◌≡◌, ◌∙◌, ℕ, ◌<◌, List, length, Option, Some, None, arith, ap, refl, subst, sym}
use Rattle.std.proofs.lemmas.List.{length-map, length-set}
use Rattle.hlc_stamp.specs.declared.id.EventId.{EventId}
use Rattle.hlc_causality.specs.Causality.{Skeleton}
use Rattle.hlc_causality.specs.ClockEvents.{ClockEvents}
use Rattle.hlc_causality.specs.Feasible.{IsLeastFeasible}
use Rattle.hlc_causality.proofs.ReceiveEvents.{clock_events_size}
use Rattle.hlc_execution.specs.Execution.{StoredExecution, clock_of}
use Rattle.hlc_log.specs.CausalOrder.{IsCausalOrder}
use Rattle.hlc_log.specs.Events.{event_at}
use Rattle.hlc_log.specs.Log.{StoredLog}
use Rattle.hlc_log.specs.OrderSkeleton.{rules_in, skeleton_event_in}
use Rattle.hlc_log.proofs.OrderSkeletons.{length-skeleton_in}
use Rattle.hlc_ordered_log.specs.InOrder.{AreParts, IsInOrder, LogInOrder, carried_of, claimed_of, clocks_of, log_in_order, seen_of, skeleton_of}
use Rattle.hlc_causes.specs.Seen.{seen}
use Rattle.hlc_stamp.specs.Order.{Pair}
use Rattle.hlc_ordered_log.proofs.Ordering.{order_len}

-- there are as many stamps that are claimed as events
pub length-claimed_of : (log : LogInOrder) → length (claimed_of log) ≡ length (skeleton_of log)
length-claimed_of log =
    length-map log.order (λ (e : ℕ). (event_at log.events e).stamp) ∙ sym (length-map log.order (skeleton_event_in log.events log.order))

-- and as many whatever an event saw
length-seen : (claimed : List Pair) (send : Option ℕ) (carried : Option Pair) → length (seen claimed send carried) ≡ length claimed
length-seen claimed None None = refl
length-seen claimed None (Some p) = refl
length-seen claimed (Some d) None = refl
length-seen claimed (Some d) (Some p) = length-set claimed d p

pub length-seen_of : (log : LogInOrder) (k : ℕ) → length (seen_of log k) ≡ length (claimed_of log)
length-seen_of log k = length-seen (claimed_of log) _ (carried_of log k)

length-causal : (log : LogInOrder) → IsCausalOrder log.events log.order → length (skeleton_of log) ≡ length log.events
length-causal log causal = length-skeleton_in log.events log.order causal ∙ order_len log.events log.order causal

pub length-skeleton_of : (log : LogInOrder) → IsInOrder log → length (skeleton_of log) ≡ length log.events
length-skeleton_of log ordered = length-causal log ordered.causal

-- as a clock rule reads them there are as many
pub length-clocks_of : (log : LogInOrder) → length (clocks_of log) ≡ length (skeleton_of log)
length-clocks_of log = clock_events_size (rules_in log.receives log.events log.order) (skeleton_of log)

-- parts that agree hold a log in order
pub parts_in_order : (log : StoredLog) (order positions : List EventId) (execution : StoredExecution) → AreParts log order positions execution
    → IsInOrder (log_in_order log order execution)
parts_in_order log order positions execution parts = record {
  few = parts.few;
  few_nodes = parts.few_nodes;
  of_nodes = parts.of_nodes;
  in_range = parts.in_range;
  messages = parts.messages;
  causal = parts.causal;
  least = subst (λ (t : ClockEvents). IsLeastFeasible t execution.stamps) parts.execution_is.clocks_are parts.execution_is.least;
  given = parts.given;
}

-- the execution in the parts of a log in order has its events
module _ (log : StoredLog) (order positions : List EventId) (execution : StoredExecution) (parts : AreParts log order positions execution)
    (whole : LogInOrder) (is : log_in_order log order execution ≡ whole) where
  pub has_events : execution.events ≡ skeleton_of whole
  has_events = parts.execution_is.events_are ∙ ap (λ (l : LogInOrder). skeleton_of l) is

  pub has_clocks : clock_of execution ≡ clocks_of whole
  has_clocks = parts.execution_is.clocks_are ∙ ap (λ (l : LogInOrder). clocks_of l) is

  pub has_event : (k : ℕ) → k < length whole.events → k < length execution.events
  has_event k exists =
      let kept = ap (λ (l : LogInOrder). length l.events) is in
      let size = length-causal (log_in_order log order execution) parts.causal in
      let same = ap (λ (s : Skeleton). length s) parts.execution_is.events_are in
      omega arith

  pub has_claims : length (claimed_of whole) ≡ length execution.events
  has_claims = length-claimed_of whole ∙ sym (ap (λ (s : Skeleton). length s) has_events)
