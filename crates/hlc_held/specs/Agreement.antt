-- When a log agrees with a history at a node.
use Rattle.std.specs.Prelude.{◌≡◌, ◌==◌, ◌⊎◌, ℕ, ◌<◌, Some, List, filter, length, slice_get, take}
use Rattle.hlc_stamp.specs.Ids.{is_among}
use Rattle.hlc_stamp.specs.Order.{Pair}
use Rattle.hlc_arena.specs.EntryLaws.{IsWriteOf}
use Rattle.hlc_arena.specs.History.{Delivered, Erased, EventKind, Sent, StampedEvent, Synced, Written, event_at, stamp_at}
use Rattle.hlc_causality.specs.Places.{places_below}
use Rattle.hlc_core.specs.Request.{Request, ToDeliver, ToErase, ToPull, ToSend, ToSync, ToWrite}
use Rattle.hlc_held.specs.LogEntry.{DidAct, DidLook, LogEntry, events_named}
use Rattle.hlc_held.specs.Sights.{sight_of_key}

-- the places of a node's events, rising
abbrev pub places_of_node : List StampedEvent → ℕ → List ℕ
places_of_node events node = filter (λ e. (event_at events e).node == node) (places_below (length events))

-- what happened is what was asked: a write, an erase or a delivery is the same; a send has the same target and carries a
-- write of the key; a sync has the same target; a pull wrote this key and value, or delivered something
abbrev pub IsWhatWasAsked : List StampedEvent → Request → EventKind → Type 0
IsWhatWasAsked events (ToWrite key value) kind = kind ≡ Written key value
IsWhatWasAsked events (ToErase key) kind = kind ≡ Erased key
IsWhatWasAsked events (ToSend to key) kind = (write : ℕ) × (kind ≡ Sent to write) × IsWriteOf key (event_at events write).kind
IsWhatWasAsked events (ToSync to) kind = (writes : List ℕ) × (kind ≡ Synced to writes)
IsWhatWasAsked events (ToDeliver sent) kind = kind ≡ Delivered sent
IsWhatWasAsked events (ToPull key value) kind = (kind ≡ Written key value) ⊎ ((sent : ℕ) × (kind ≡ Delivered sent))

-- an event has this reading and this stamp, and is what was asked
pub record IsAnswerTo (events : List StampedEvent) (reading : ℕ) (request : Request) (e : ℕ) (stamp : Pair) : Type 0 where
  pub exists : e < length events
  pub reading_is : (event_at events e).reading ≡ reading
  pub stamp_is : stamp_at events e ≡ stamp
  pub asked : IsWhatWasAsked events request (event_at events e).kind

-- an entry fits after entries that name these events: the event of an accepted request is what was asked, and a look
-- showed the node's entry from the events that were named
abbrev pub FitsThere : List StampedEvent → ℕ → List ℕ → LogEntry → Type 0
FitsThere events node named (DidAct reading request event stamp) = IsAnswerTo events reading request event stamp
FitsThere events node named (DidLook key answer) = answer ≡ sight_of_key events (is_among named) node key

-- an entry fits the entries before it
abbrev pub FitsAfter : List StampedEvent → ℕ → List LogEntry → LogEntry → Type 0
FitsAfter events node earlier entry = FitsThere events node (events_named earlier) entry

-- a log agrees with a history at a node: it names exactly the node's events, in order, and each entry fits those before it
pub record Agrees (events : List StampedEvent) (node : ℕ) (log : List LogEntry) : Type 0 where
  pub names : events_named log ≡ places_of_node events node
  pub each : (k : ℕ) (entry : LogEntry) → slice_get log k ≡ Some entry → FitsAfter events node (take k log) entry
