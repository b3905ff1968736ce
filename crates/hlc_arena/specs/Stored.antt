-- How an arena keeps its events, and what is always true of it.
use Rattle.std.specs.Prelude.{◌≡◌, ℕ, ◌<◌, ◌≤◌, List, [], ◌∷◌, length, map, min, slice_index_or}
use Rattle.std.specs.Arc.{arc_slice_items}
use Rattle.std.specs.declared.sync.ArcSlice.{ArcSlice}
use Rattle.std.specs.List.{All}
use Rattle.std.specs.declared.alloc.Global.{Global}
use Rattle.hlc_stamp.specs.declared.id.EventId.{EventId}
use Rattle.hlc_stamp.specs.Ids.{places_of}
use Rattle.hlc_stamp.specs.Order.{Pair}
use Rattle.hlc_causality.specs.declared.receives.Receives.TheVariants.{Tick}
use Rattle.hlc_causality.specs.Causality.{Skeleton}
use Rattle.hlc_causality.specs.ReceiveEvents.{plain_rules}
use Rattle.hlc_execution.specs.Execution.{StoredExecution}
use Rattle.hlc_pages.specs.Log.{IsWithin, Log, key_in, value_in}
use Rattle.hlc_pages.specs.Pages.{PagedItems}
use Rattle.hlc_arena.specs.declared.stored_kind.StoredKind.{StoredKind}
use Rattle.hlc_arena.specs.declared.stored_kind.StoredKind.TheVariants.{Deliver, Erase, Send, Sync, Write}
use Rattle.hlc_arena.specs.Arena.{IsWellFormed, StoredHistory}
use Rattle.hlc_arena.specs.History.{Delivered, Erased, EventKind, Sent, StampedEvent, Synced, Written, causality_of, stamps_of}

-- what lists of writes hold
abbrev pub places_in : List (ArcSlice EventId Global) → List (List ℕ)
places_in lists = map (λ list. places_of (arc_slice_items list)) lists

-- what a stored kind stands for, by the pages of bytes and the lists of writes
abbrev pub kind_in : List (List ℕ) → List (List ℕ) → StoredKind → EventKind
kind_in pages lists (Write span) = Written (key_in pages span) (value_in pages span)
kind_in pages lists (Erase span) = Erased (key_in pages span)
kind_in pages lists (Send to write) = Sent to.0 write.0
kind_in pages lists (Sync to list) = Synced to.0 (slice_index_or lists list [])
kind_in pages lists (Deliver sent) = Delivered sent.0

-- what a stored kind names is there
abbrev pub IsStored : List (List ℕ) → List (List ℕ) → StoredKind → Type 0
IsStored pages lists (Write span) = IsWithin pages span
IsStored pages lists (Erase span) = IsWithin pages span
IsStored pages lists (Send to write) = Unit {0}
IsStored pages lists (Sync to list) = list < length lists
IsStored pages lists (Deliver sent) = Unit {0}

-- events as causality sees them, with their stamps and what happened at each
abbrev pub stamped_events : Skeleton → List Pair → List EventKind → List StampedEvent
stamped_events [] _ _ = []
stamped_events (_ ∷ _) [] _ = []
stamped_events (_ ∷ _) (_ ∷ _) [] = []
stamped_events (e ∷ es) (p ∷ ps) (k ∷ ks) =
    record { event = record { node = e.node; reading = e.reading; kind = k }; stamp = p } ∷ stamped_events es ps ks

-- the events that an arena keeps
abbrev pub events_in : StoredExecution → List StoredKind → List (List ℕ) → List (List ℕ) → List StampedEvent
events_in x kinds pages lists = stamped_events x.events x.stamps (map (kind_in pages lists) kinds)

-- the value of an arena
abbrev pub stored_history : ℕ → StoredExecution → PagedItems StoredKind → Log → PagedItems (ArcSlice EventId Global) → StoredHistory
stored_history capacity x kinds log lists = record {
  nodes = x.nodes;
  capacity = capacity;
  events = events_in x kinds.items log.pages (places_in lists.items);
  room = min (min x.room kinds.room) (min log.room lists.room);
}

-- the events and the stamps are those of the execution, and each has its kind, which is stored
pub record AreKept (x : StoredExecution) (kinds : List StoredKind) (pages lists : List (List ℕ)) : Type 0 where
  pub events : causality_of (events_in x kinds pages lists) ≡ x.events
  pub stamps : stamps_of (events_in x kinds pages lists) ≡ x.stamps
  pub one_each : length kinds ≡ length x.events
  pub stored : All (IsStored pages lists) kinds
  pub few_lists : length lists ≤ length x.events

-- what is true of every arena
pub record IsArena (capacity : ℕ) (x : StoredExecution) (kinds : PagedItems StoredKind) (log : Log)
    (lists : PagedItems (ArcSlice EventId Global)) : Type 0 where
  pub ticking : x.rules ≡ plain_rules Tick
  pub well_formed : IsWellFormed (record { nodes = x.nodes; capacity = capacity; events = events_in x kinds.items log.pages (places_in lists.items) })
  pub kept : AreKept x kinds.items log.pages (places_in lists.items)
