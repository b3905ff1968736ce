-- The events of a log in a causal order, as causality sees them.
use Rattle.std.specs.Prelude.{◌≡◌, ◌≢◌, ℕ, ◌+◌, ◌++◌, Bool, false, ◌<◌, ◌≤◌, All, Option, Some, None, List, [], ◌∷◌, length, map, if◌then◌else◌, slice_index_or, slice_set}
use Rattle.hlc_stamp.specs.declared.id.EventId.{EventId}
use Rattle.hlc_stamp.specs.Ids.{places_of}
use Rattle.hlc_stamp.specs.declared.limits.TheConstants.{MAX_CAPACITY}
use Rattle.hlc_log.specs.declared.log_event.TheConstants.{MAX_LOG_NODES}
use Rattle.hlc_stamp.specs.Order.{Pair}
use Rattle.hlc_causality.specs.Causality.{Skeleton, SkeletonEvent, skeleton_at}
use Rattle.hlc_causality.specs.declared.receives.Receives.{Receives}
use Rattle.hlc_causality.specs.ClockEvents.{ClockEvents}
use Rattle.hlc_causality.specs.Feasible.{IsLeastFeasible}
use Rattle.hlc_causality.specs.ReceiveEvents.{clock_events, own_at}
use Rattle.hlc_causality.specs.Assignment.{pair_at}
use Rattle.hlc_causes.specs.Given.{given_at}
use Rattle.hlc_causes.specs.Seen.{seen_at, wrongly_carried}
use Rattle.hlc_execution.specs.Execution.{HasLeastClockStamps, StoredExecution, clock_of}
use Rattle.hlc_log.specs.CausalOrder.{IsCausalOrder, place_at}
use Rattle.hlc_log.specs.Events.{IsInRange, event_at, own_rule, with_stamp}
use Rattle.hlc_log.specs.Log.{StoredLog}
use Rattle.hlc_log.specs.Messages.{AreMessagesSound, Sends, SendsTo}
use Rattle.hlc_log.specs.OrderSkeleton.{rules_in, skeleton_in}
use Rattle.hlc_log.specs.declared.log_event.LogEvent.{LogEvent}
use Rattle.hlc_log.specs.declared.log_event.LogKind.{LogKind}
use Rattle.hlc_log.specs.declared.log_event.LogKind.TheVariants as kind

-- the event that stands at k
abbrev pub event_in_order : List LogEvent → List ℕ → ℕ → LogEvent
event_in_order events order k = event_at events (place_at order k)

-- the answer is where the send of the message stands that the event at k receives, or None if it receives none
abbrev pub NamesSendIn : List LogEvent → List ℕ → ℕ → Option ℕ → Type 0
NamesSendIn events order k None = (e : ℕ) → ¬ SendsTo events e (place_at order k)
NamesSendIn events order k (Some j) = (j < k) × SendsTo events (place_at order j) (place_at order k)

-- causality sees the event at k as this
pub record IsSeenAs (events : List LogEvent) (order : List ℕ) (k : ℕ) (seen : SkeletonEvent) : Type 0 where
  pub node : seen.node ≡ (event_in_order events order k).node.0
  pub reading : seen.reading ≡ (event_in_order events order k).reading
  pub send : NamesSendIn events order k seen.send

-- causality sees the first n events so
pub record AreSeenAs (events : List LogEvent) (order : List ℕ) (n : ℕ) (s : Skeleton) : Type 0 where
  pub one_each : length s ≡ n
  pub each : (k : ℕ) → k < n → IsSeenAs events order k (skeleton_at s k)

-- the skeleton of the events of a log in an order
abbrev pub IsSkeletonIn : List LogEvent → List ℕ → Skeleton → Type 0
IsSkeletonIn events order s = AreSeenAs events order (length order) s

-- the stamps that the log claims, in the order
abbrev pub claimed_in : List LogEvent → List ℕ → List Pair
claimed_in events order = map (λ e. (event_at events e).stamp) order

-- the answer is where the send of message m stands among the first n, or None if it isn't there
abbrev pub NamesSendOf : List LogEvent → List ℕ → (n m : ℕ) → Option EventId → Type 0
NamesSendOf events order n m None = (j : ℕ) → j < n → ¬ Sends events (place_at order j) m
NamesSendOf events order n m (Some j) = (j.0 < n) × Sends events (place_at order j.0) m

-- an answer for each message
abbrev pub AreSendsOf : List LogEvent → List ℕ → ℕ → List (Option EventId) → Type 0
AreSendsOf events order n sends = (m : ℕ) → m < length sends → NamesSendOf events order n m (slice_index_or sends m None)

-- where the send of the message stands that an event receives, if it receives one
abbrev pub send_received : List (Option EventId) → LogKind → Option EventId
send_received sends (kind.Receive m) = slice_index_or sends m.0 None
send_received sends _ = None

-- the answers once an event stands at a position
abbrev pub with_send : List (Option EventId) → LogKind → EventId → List (Option EventId)
with_send sends (kind.Send m) position = slice_set sends m.0 (Some position)
with_send sends _ position = sends

-- each event is of one of the first so many nodes
abbrev pub AreOfNodes : ℕ → List LogEvent → Type 0
AreOfNodes nodes events = All (λ event. event.node.0 < nodes) events

-- a log in a causal order: how many nodes it has, what its clocks do at receives, its events as the log has them, their places in that
-- order, and the least stamps in that order
pub record LogInOrder : Type 0 where
  pub nodes : ℕ
  pub receives : Receives
  pub events : List LogEvent
  pub order : List ℕ
  pub least : List Pair

-- its events as causality sees them, in that order
abbrev pub skeleton_of : LogInOrder → Skeleton
skeleton_of log = skeleton_in log.events log.order

-- its events as the rules of its clocks read them
abbrev pub clocks_of : LogInOrder → ClockEvents
clocks_of log = clock_events (rules_in log.receives log.events log.order) (skeleton_of log)

-- the stamps that the log claims, in that order
abbrev pub claimed_of : LogInOrder → List Pair
claimed_of log = claimed_in log.events log.order

-- what the message of the event at a position carried, if the log tells that
abbrev pub carried_of : LogInOrder → ℕ → Option Pair
carried_of log k = (event_in_order log.events log.order k).carried

-- the stamps that the log claims, as the event at a position saw them: in place of its send's, what the message carried
abbrev pub seen_of : LogInOrder → ℕ → List Pair
seen_of log k = seen_at (clocks_of log) (claimed_of log) (carried_of log) k

-- where the send stands of what the event at a position receives, if the message carried another stamp than the log claims there
abbrev pub wrong_of : LogInOrder → ℕ → Option ℕ
wrong_of log k = wrongly_carried (clocks_of log) (claimed_of log) (carried_of log) k

-- each message carried the stamp that the log claims for its send, if the log tells what it carried
abbrev pub IsCarriedRightly : LogInOrder → Type 0
IsCarriedRightly log = (k : ℕ) → k < length log.order → wrong_of log k ≡ None

-- whether the log tells what the clock read at the event at a position
abbrev pub reading_told : LogInOrder → ℕ → Bool
reading_told log k = (event_in_order log.events log.order k).has_reading

-- whether the log tells the stamp of the event at a position
abbrev pub stamp_told : LogInOrder → ℕ → Bool
stamp_told log k = (event_in_order log.events log.order k).has_stamp

-- the line of the event at a position
abbrev pub line_in : LogInOrder → ℕ → ℕ
line_in log k = (event_in_order log.events log.order k).line

-- each of the first n events that has no stamp has the one that the clock rule gives it, after the stamps that it saw claimed just before it
abbrev pub AreGivenBefore : LogInOrder → ℕ → Type 0
AreGivenBefore log n = (k : ℕ) → k < n → stamp_told log k ≡ false → pair_at (claimed_of log) k ≡ given_at (clocks_of log) (seen_of log k) k

-- so it is of all events
abbrev pub IsGivenStamps : LogInOrder → Type 0
IsGivenStamps log = AreGivenBefore log (length log.order)

-- nodes are few, and each event is of one of them; each message is sent once and received only if it is sent, the order is causal, the least stamps are those, and stamps that aren't told are given;
-- readings and floors are in range, and the stamps of restarts are told
pub record IsInOrder (log : LogInOrder) : Type 0 where
  pub few : length log.events ≤ MAX_CAPACITY
  pub few_nodes : log.nodes ≤ MAX_LOG_NODES
  pub of_nodes : AreOfNodes log.nodes log.events
  pub in_range : All IsInRange log.events
  pub messages : AreMessagesSound log.events
  pub causal : IsCausalOrder log.events log.order
  pub least : IsLeastFeasible (clocks_of log) log.least
  pub given : IsGivenStamps log

-- an event with this stamp, unless its own is told
abbrev pub filled_event : LogEvent → Pair → LogEvent
filled_event event stamp = if event.has_stamp then event else with_stamp stamp event

-- events are those of a log, each without a stamp with some stamp
pub record AreFilled (events filled : List LogEvent) : Type 0 where
  pub one_each : length filled ≡ length events
  pub each : (e : ℕ) → e < length events → event_at filled e ≡ filled_event (event_at events e) (event_at filled e).stamp

-- each place in an order is one of n events
abbrev pub EachExists : ℕ → List ℕ → Type 0
EachExists n order = (k : ℕ) → k < length order → place_at order k < n

-- no place stands twice in an order
abbrev pub EachDiffers : List ℕ → Type 0
EachDiffers order = (j k : ℕ) → j < k → k < length order → place_at order j ≢ place_at order k

-- where each event stands in the order
pub record ArePositions (order : List ℕ) (n : ℕ) (positions : List EventId) : Type 0 where
  pub one_each : length positions ≡ n
  pub each : (k : ℕ) → k < length order → (slice_index_or positions (place_at order k) (record { 0 = 0 })).0 ≡ k

-- an execution got one event of a log more, by its own rule and with its least stamp; send is what it receives
pub record HasOneMore (before after : StoredExecution) (event : LogEvent) (send : Option ℕ) : Type 0 where
  pub nodes : after.nodes ≡ before.nodes
  pub receives : after.rules.receives ≡ before.rules.receives
  pub events : after.events ≡ before.events ++ record { node = event.node.0; reading = event.reading; send = send } ∷ []
  pub own : own_at after.rules (length before.events) ≡ own_rule before.rules.receives event
  pub others : (k : ℕ) → k < length before.events → own_at after.rules k ≡ own_at before.rules k
  pub ruled : length after.rules.own ≤ length before.events + 1
  pub least : HasLeastClockStamps after

-- an execution has the first n events of a log in an order, each with the rule of its own, and their least stamps
pub record HasFirst (events : List LogEvent) (order : List ℕ) (n : ℕ) (execution : StoredExecution) : Type 0 where
  pub seen : AreSeenAs events order n execution.events
  pub own : (k : ℕ) → k < n → own_at execution.rules k ≡ own_rule execution.rules.receives (event_in_order events order k)
  pub ruled : length execution.rules.own ≤ n
  pub least : HasLeastClockStamps execution

-- an execution has the events of a log in an order, with the least stamps
pub record IsExecutionOf (events : List LogEvent) (order : List ℕ) (execution : StoredExecution) : Type 0 where
  pub events_are : execution.events ≡ skeleton_in events order
  pub clocks_are : clock_of execution ≡ clock_events (rules_in execution.rules.receives events order) (skeleton_in events order)
  pub least : HasLeastClockStamps execution

-- the log in order that parts hold
abbrev pub log_in_order : StoredLog → List EventId → StoredExecution → LogInOrder
log_in_order log order execution = record {
  nodes = execution.nodes;
  receives = execution.rules.receives;
  events = log.events;
  order = places_of order;
  least = execution.stamps;
}

-- the parts that a log in order is kept in agree
pub record AreParts (log : StoredLog) (order positions : List EventId) (execution : StoredExecution) : Type 0 where
  pub few : length log.events ≤ MAX_CAPACITY
  pub few_nodes : execution.nodes ≤ MAX_LOG_NODES
  pub of_nodes : AreOfNodes execution.nodes log.events
  pub in_range : All IsInRange log.events
  pub messages : AreMessagesSound log.events
  pub causal : IsCausalOrder log.events (places_of order)
  pub positions_are : ArePositions (places_of order) (length log.events) positions
  pub execution_is : IsExecutionOf log.events (places_of order) execution
  pub given : IsGivenStamps (log_in_order log order execution)
