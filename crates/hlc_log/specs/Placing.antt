-- Events that have their place in an order, and where each node goes on.
use Rattle.std.specs.Prelude.{◌≡◌, ◌≢◌, ◌↔◌, ℕ, ◌+◌, ◌<◌, ◌≤◌, ◌⊎◌, Contains, Option, Some, None, List, length, if◌then◌else◌, nat_le}
use Rattle.hlc_stamp.specs.declared.id.EventId.{EventId}
use Rattle.hlc_stamp.specs.declared.id.NodeId.{NodeId}
use Rattle.hlc_stamp.specs.Ids.{places_of}
use Rattle.hlc_log.specs.declared.log_event.LogEvent.{LogEvent}
use Rattle.hlc_log.specs.declared.placing.Placing.{Placing}
use Rattle.hlc_log.specs.declared.turns.Turns.{Turns}
use Rattle.hlc_log.specs.CausalOrder.{IsCausalPrefix}
use Rattle.hlc_log.specs.Events.{event_at}
use Rattle.hlc_log.specs.Messages.{SendsTo}
use Rattle.hlc_log.specs.SendLinks.{link_at}
use Rattle.hlc_log.specs.Standing.{SeqsRise}
use Rattle.hlc_log.specs.Turns.{HasTurn}

-- the node of the event at a place
abbrev pub node_at : List LogEvent → ℕ → ℕ
node_at events e = (event_at events e).node.0

-- each event is of one of the first n nodes
abbrev pub AreNodesBelow : List LogEvent → ℕ → Type 0
AreNodesBelow events n = (e : ℕ) → e < length events → node_at events e < n

-- g is the first event of a node from low on
pub record IsFirstFrom (events : List LogEvent) (low node g : ℕ) : Type 0 where
  pub from : low ≤ g
  pub exists : g < length events
  pub at_node : node_at events g ≡ node
  pub first : (f : ℕ) → low ≤ f → f < g → node_at events f ≢ node

-- a link to that event, or to none if there is none
abbrev pub LinksToFirst : List LogEvent → ℕ → ℕ → Option EventId → Type 0
LinksToFirst events low node None = (f : ℕ) → low ≤ f → f < length events → node_at events f ≢ node
LinksToFirst events low node (Some g) = IsFirstFrom events low node g.0

-- from low on, each event has a link to the next of its node, and each node one to its first
pub record AreNodesLinked (events : List LogEvent) (low : ℕ) (next fronts : List (Option EventId)) : Type 0 where
  pub len : length next ≡ length events
  pub nodes : AreNodesBelow events (length fronts)
  pub each_next : (e : ℕ) → low ≤ e → e < length events → LinksToFirst events (e + 1) (node_at events e) (link_at next e)
  pub each_front : (node : ℕ) → node < length fronts → LinksToFirst events low node (link_at fronts node)

-- f comes before the event at which its node goes on
abbrev pub IsBefore : Option EventId → ℕ → Type 0
IsBefore None f = Unit {0}
IsBefore (Some front) f = f < front.0

-- f has its place
abbrev pub IsPassed : List LogEvent → List (Option EventId) → ℕ → Type 0
IsPassed events fronts f = IsBefore (link_at fronts (node_at events f)) f

-- e is an event of a node, as the one is at which the node goes on
pub record IsFrontOf (events : List LogEvent) (node e : ℕ) : Type 0 where
  pub exists : e < length events
  pub at_node : node_at events e ≡ node

-- a link to such an event, or to none
abbrev pub LinksToFront : List LogEvent → ℕ → Option EventId → Type 0
LinksToFront events node None = Unit {0}
LinksToFront events node (Some e) = IsFrontOf events node e.0

-- what is true while events get their places: the order is causal, and has exactly the events that were passed
pub record ArePlaced (events : List LogEvent) (next fronts : List (Option EventId)) (order : List ℕ) : Type 0 where
  pub rise : SeqsRise events
  pub len : length next ≡ length events
  pub nodes : AreNodesBelow events (length fronts)
  pub each_next : (e : ℕ) → e < length events → LinksToFirst events (e + 1) (node_at events e) (link_at next e)
  pub each_front : (node : ℕ) → node < length fronts → LinksToFront events node (link_at fronts node)
  pub causal : IsCausalPrefix events order
  pub placed : (f : ℕ) → f < length events → Contains order f ↔ IsPassed events fronts f

-- so it is of the order that a placing has made so far
abbrev pub IsPlacing : List LogEvent → Placing → Type 0
IsPlacing events placing = ArePlaced events placing.next.items placing.fronts.items (places_of placing.order.items)

-- whatever sends what e receives has its place
abbrev pub IsReady : List LogEvent → List (Option EventId) → ℕ → Type 0
IsReady events fronts e = (send : ℕ) → SendsTo events send e → IsPassed events fronts send

-- e receives what an event sends that has no place yet
pub record IsBlocked (events : List LogEvent) (fronts : List (Option EventId)) (e : ℕ) : Type 0 where
  pub send : ℕ
  pub sends : SendsTo events send e
  pub unplaced : ¬ IsPassed events fronts send

-- so does the event at which a node goes on, if there is one
abbrev pub IsNodeBlocked : List LogEvent → List (Option EventId) → Option EventId → Type 0
IsNodeBlocked events fronts None = Unit {0}
IsNodeBlocked events fronts (Some e) = IsBlocked events fronts e.0

-- so it is at each node
abbrev pub AreAllBlocked : List LogEvent → List (Option EventId) → Type 0
AreAllBlocked events fronts = (node : ℕ) → node < length fronts → IsNodeBlocked events fronts (link_at fronts node)

-- a node has a turn, or can't go on
abbrev pub HasTurnOrWaits : List LogEvent → List (Option EventId) → Turns → NodeId → Type 0
HasTurnOrWaits events fronts turns node = HasTurn turns node ⊎ IsNodeBlocked events fronts (link_at fronts node.0)

-- turns are of nodes that there are
abbrev pub AreTurnsBelow : ℕ → Turns → Type 0
AreTurnsBelow nodes turns = (node : NodeId) → HasTurn turns node → node.0 < nodes

-- what is true of them while events get their places: each node that can go on has one
pub record AreTurns (events : List LogEvent) (fronts : List (Option EventId)) (turns : Turns) : Type 0 where
  pub below : AreTurnsBelow (length fronts) turns
  pub each : (node : NodeId) → node.0 < length fronts → HasTurnOrWaits events fronts turns node

-- so does each but this one
pub record AreTurnsBeside (events : List LogEvent) (fronts : List (Option EventId)) (turns : Turns) (this : NodeId) : Type 0 where
  pub below : AreTurnsBelow (length fronts) turns
  pub each : (node : NodeId) → node.0 < length fronts → node ≢ this → HasTurnOrWaits events fronts turns node

-- an event at which its node goes on has its node's turn
abbrev pub IsWoken : List LogEvent → List (Option EventId) → Turns → ℕ → Type 0
IsWoken events fronts turns e = link_at fronts (node_at events e) ≡ Some (record { 0 = e }) → HasTurn turns (event_at events e).node

-- the earlier of two events, or the one that there is
abbrev pub first_of : Option EventId → Option EventId → Option EventId
first_of None b = b
first_of (Some a) None = Some a
first_of (Some a) (Some b) = Some (if nat_le a.0 b.0 then a else b)

-- an event is the first of those at which the first n nodes go on
pub record IsFirstFront (fronts : List (Option EventId)) (n : ℕ) (first : EventId) : Type 0 where
  pub node : ℕ
  pub exists : node < n
  pub at_node : link_at fronts node ≡ Some first
  pub none_earlier : (other : ℕ) (front : EventId) → other < n → link_at fronts other ≡ Some front → first.0 ≤ front.0

-- a link to it, or to none if no such node has an event left
abbrev pub LinksToFirstFront : List (Option EventId) → ℕ → Option EventId → Type 0
LinksToFirstFront fronts n None = (node : ℕ) → node < n → link_at fronts node ≡ None
LinksToFirstFront fronts n (Some first) = IsFirstFront fronts n first
