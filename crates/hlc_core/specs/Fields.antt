-- What a cluster's fields stand for, and what is true of them.
use Rattle.std.specs.Prelude.{◌≡◌, ℕ, ◌<◌, Option, Some, None, List, [], ◌∷◌, ◌++◌, length, All, IsSome}
use Rattle.hlc_arena.specs.History.{EventKind, History, StampedEvent, event_at, target_of}
use Rattle.hlc_pool.specs.Messages.{HasRoomFor, LiveMessages, Message, sends_of}
use Rattle.hlc_core.specs.Sound.{IsSound}
use Rattle.hlc_core.specs.Tables.{HoldTables}
use Rattle.hlc_table.specs.Rows.{Row}
use Rattle.hlc_core.specs.State.{State}

-- the state of a history and its live messages, under a limit
abbrev pub state_of : Option ℕ → History → List Message → State
state_of limit h messages = record { history = h; live = sends_of messages; limit = limit }

-- a message is addressed to the node that its send names
abbrev pub IsAddressed : List StampedEvent → Message → Type 0
IsAddressed events m = (m.send < length events) × (target_of (event_at events m.send).kind ≡ Some m.target)

abbrev pub AreAddressed : List StampedEvent → List Message → Type 0
AreAddressed events messages = All (IsAddressed events) messages

-- live messages, and that of an event which has this target
abbrev pub messages_and : List Message → ℕ → Option ℕ → List Message
messages_and messages event (Some to) = messages ++ record { send = event; target = to } ∷ []
messages_and messages event None = messages

-- the live messages after an event that comes next: what it sends is live
abbrev pub messages_with : List Message → ℕ → EventKind → List Message
messages_with messages event kind = messages_and messages event (target_of kind)

-- the message of such an event needs no memory: it has none, or there is room for it
abbrev pub HasRoomToPost : LiveMessages → ℕ → EventKind → Type 0
HasRoomToPost live event kind = IsSome (target_of kind) → HasRoomFor live event

-- the history, the live messages and the tables fit together
pub record AreWhole (limit : Option ℕ) (h : History) (live : LiveMessages) (tables : List (List Row)) : Type 0 where
  pub sound : IsSound (state_of limit h live.messages)
  pub nodes : live.nodes ≡ h.nodes
  pub addressed : AreAddressed h.events live.messages
  pub held : HoldTables h tables
