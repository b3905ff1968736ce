-- What a log says, apart from where it lies in memory.
use Rattle.std.specs.Prelude.{ℕ, List, None, Option, Some, map}
use Rattle.std.specs.List.{filter_map}
use Rattle.std.specs.Option.{option_map}
use Rattle.hlc_stamp.specs.Order.{Pair}
use Rattle.hlc_table.specs.declared.entry.Entry.{Entry}
use Rattle.hlc_core.specs.Request.{Request, request_of}
use Rattle.hlc_held.specs.declared.logged.Logged.{Logged}
use Rattle.hlc_held.specs.declared.logged.Logged.TheVariants.{Acted, Looked}
use Rattle.hlc_held.specs.declared.seen.Seen.{Seen}

-- what a look at a key shows: its entry, and the value of the write; an erase has none
pub record Sight : Type 0 where
  pub entry : Entry
  pub value : Option (List ℕ)

-- an entry of a log: a request that was accepted, with the reading, and its event with the stamp; or a key that was looked
-- at, and what was shown, if the node knew a write of it
pub data LogEntry : Type 0 where
  DidAct : (reading : ℕ) (request : Request) (event : ℕ) (stamp : Pair) → LogEntry
  DidLook : (key : List ℕ) (answer : Option Sight) → LogEntry

-- what was seen
abbrev pub sight_of : Seen → Sight
sight_of seen = record { entry = seen.entry; value = option_map (λ v. v.items) seen.value }

-- what an entry says
abbrev pub log_entry_of : Logged → LogEntry
log_entry_of (Acted reading action event stamp) = DidAct reading (request_of action) event.0 stamp
log_entry_of (Looked key answer) = DidLook key.items (option_map sight_of answer)

-- what a log says
abbrev pub log_of : List Logged → List LogEntry
log_of entries = map log_entry_of entries

-- the event that an entry names, if it is of an accepted request
abbrev pub event_named : LogEntry → Option ℕ
event_named (DidAct reading request event stamp) = Some event
event_named (DidLook key answer) = None

-- the events that a log names, in order
abbrev pub events_named : List LogEntry → List ℕ
events_named log = filter_map event_named log
