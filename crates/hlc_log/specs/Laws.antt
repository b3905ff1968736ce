-- The laws of causal orders.
use Rattle.std.specs.Prelude.{◌≡◌, ◌↔◌, ℕ, ◌<◌, All, List, Option, length, map}
use Rattle.hlc_stamp.specs.declared.id.NodeId.{NodeId}
use Rattle.hlc_stamp.specs.Order.{Pair}
use Rattle.hlc_causality.specs.declared.receives.Receives.{Receives}
use Rattle.hlc_causality.specs.Assignment.{IsLeast, pair_at}
use Rattle.hlc_causality.specs.Causality.{HappenedBefore, Skeleton}
use Rattle.hlc_causality.specs.ClockEvents.{ClockEvents, clock_skeleton}
use Rattle.hlc_causality.specs.Feasible.{IsLeastFeasible}
use Rattle.hlc_causality.specs.FollowedChains.{chain_of}
use Rattle.hlc_causality.specs.FollowedClockChains.{clock_chain_of}
use Rattle.hlc_causality.specs.NodeEvents.{IsFurthestAhead}
use Rattle.hlc_causality.specs.ReceiveEvents.{ClockRules, clock_events, own_at}
use Rattle.hlc_log.specs.declared.log_event.LogEvent.{LogEvent}
use Rattle.hlc_log.specs.declared.message_id.MessageId.{MessageId}
use Rattle.hlc_log.specs.declared.order_fault.OrderFault.{OrderFault}
use Rattle.hlc_log.specs.declared.order_fault.OrderFault.TheVariants.{Memory}
use Rattle.hlc_log.specs.CausalOrder.{IsCausalOrder, Needs, Waits, place_at}
use Rattle.hlc_log.specs.Faults.{IsFaultOf}
use Rattle.hlc_log.specs.Messages.{AreMessagesSound, EachIsSentOnce}
use Rattle.hlc_log.specs.OrderSkeleton.{rules_in, skeleton_in}
use Rattle.hlc_log.specs.Senders.{HasOther, told_apart}
use Rattle.hlc_log.specs.Reordering.{HaveEqualPairs, IsClockReordering, IsReorderedLog, IsReordering, IsSameNode, SendsAreNamed}

-- a log of which a fault is true, other than that memory was refused, has messages that aren't sound or no causal order
abbrev pub FaultsLeaveNoOrder : Type 0
FaultsLeaveNoOrder = (events : List LogEvent) (fault : OrderFault) → IsFaultOf events fault → ¬ (fault ≡ Memory) → AreMessagesSound events →
    (order : List ℕ) → ¬ IsCausalOrder events order

-- an event that can't happen before one that waits waits too: the later ones of its node, and those that receive what it sends
abbrev pub WaitingIsPassedOn : Type 0
WaitingIsPassedOn = (events : List LogEvent) (e f : ℕ) → Waits events e → f < length events → Needs events f e → Waits events f

-- where no event has the message of that number, telling messages apart changes nothing
abbrev pub NamedMessagesStay : Type 0
NamedMessagesStay = (unnamed : MessageId) (messages : ℕ) (senders : List (Option NodeId)) (events : List LogEvent) →
    All (λ event. HasOther unnamed event.kind) events → told_apart unnamed messages senders events ≡ events

-- a reordering keeps what happened before what
abbrev pub ReorderingKeepsHappenedBefore : Type 0
ReorderingKeepsHappenedBefore = (s t : Skeleton) (to back : ℕ → ℕ) → IsReordering s t to back → (e f : ℕ) → e < length s → f < length s →
    HappenedBefore s e f ↔ HappenedBefore t (to e) (to f)

-- a map takes each event of s to one of t with the same least pair
abbrev pub KeepsLeast : Skeleton → Skeleton → (ℕ → ℕ) → Type 0
KeepsLeast s t to = (pairs others : List Pair) → IsLeast s pairs → IsLeast t others → HaveEqualPairs s to pairs others

-- and each event's least pair
abbrev pub ReorderingKeepsLeast : Type 0
ReorderingKeepsLeast = (s t : Skeleton) (to back : ℕ → ℕ) → IsReordering s t to back → KeepsLeast s t to

-- and so it is by floors and ticks
abbrev pub ClockReorderingKeepsLeast : Type 0
ClockReorderingKeepsLeast = (t u : ClockEvents) (to back : ℕ → ℕ) → IsClockReordering t u to back → (pairs others : List Pair) →
    IsLeastFeasible t pairs → IsLeastFeasible u others → HaveEqualPairs (clock_skeleton t) to pairs others

-- and the chain of each event, by equal pairs
abbrev pub ClockReorderingKeepsChains : Type 0
ClockReorderingKeepsChains = (t u : ClockEvents) (to back : ℕ → ℕ) → IsClockReordering t u to back → (pairs others : List Pair) →
    HaveEqualPairs (clock_skeleton t) to pairs others → (f : ℕ) → f < length t → clock_chain_of u others (to f) ≡ map to (clock_chain_of t pairs f)

-- events of which each names its send are so reordered, if what clocks do at receives and the rules that events have of their own are the same
abbrev pub RulesAreReordered : Type 0
RulesAreReordered = (rules others : ClockRules) (s t : Skeleton) (to back : ℕ → ℕ) → IsReordering s t to back →
    SendsAreNamed s → SendsAreNamed t → others.receives ≡ rules.receives → ((e : ℕ) → e < length s → own_at others (to e) ≡ own_at rules e) →
    IsClockReordering (clock_events rules s) (clock_events others t) to back

-- and which event of a node is the first of those that are furthest ahead of its clock, by pairs that are equal
abbrev pub ReorderingKeepsFurthestAhead : Type 0
ReorderingKeepsFurthestAhead = (s t : Skeleton) (to back : ℕ → ℕ) → IsReordering s t to back → (pairs others : List Pair) →
    HaveEqualPairs s to pairs others → (a b : ℕ) → IsSameNode s t to a b → (e : ℕ) → IsFurthestAhead s pairs a e → IsFurthestAhead t others b (to e)

-- and the chain of each event, by equal pairs
abbrev pub ReorderingKeepsChains : Type 0
ReorderingKeepsChains = (s t : Skeleton) (to back : ℕ → ℕ) → IsReordering s t to back → (pairs others : List Pair) →
    HaveEqualPairs s to pairs others → (f : ℕ) → f < length s → chain_of t others (to f) ≡ map to (chain_of s pairs f)

-- two logs that are reorderings of one another give the events that correspond equal least pairs, in whichever causal orders
abbrev pub ReorderedLogsAgree : Type 0
ReorderedLogsAgree = (receives : Receives) (events others : List LogEvent) (to back : ℕ → ℕ) → IsReorderedLog events others to back →
    EachIsSentOnce events → EachIsSentOnce others →
    (a b : List ℕ) → IsCausalOrder events a → IsCausalOrder others b →
    (pairs other_pairs : List Pair) →
    IsLeastFeasible (clock_events (rules_in receives events a) (skeleton_in events a)) pairs →
    IsLeastFeasible (clock_events (rules_in receives others b) (skeleton_in others b)) other_pairs →
    (i j : ℕ) → i < length a → j < length b → to (place_at a i) ≡ place_at b j → pair_at pairs i ≡ pair_at other_pairs j

-- two causal orders of one log give each event the same least pair
abbrev pub CausalOrdersAgree : Type 0
CausalOrdersAgree = (receives : Receives) (events : List LogEvent) → EachIsSentOnce events → (a b : List ℕ) → IsCausalOrder events a → IsCausalOrder events b →
    (pairs others : List Pair) →
    IsLeastFeasible (clock_events (rules_in receives events a) (skeleton_in events a)) pairs →
    IsLeastFeasible (clock_events (rules_in receives events b) (skeleton_in events b)) others →
    (i j : ℕ) → i < length a → j < length b → place_at a i ≡ place_at b j → pair_at pairs i ≡ pair_at others j
