-- What a look at a key shows.
use Rattle.std.specs.Prelude.{ℕ, Bool, List, Option}
use Rattle.std.specs.Option.{option_map}
use Rattle.hlc_arena.specs.History.{StampedEvent, event_at}
use Rattle.hlc_arena.specs.Known.{entry_of, value_of}
use Rattle.hlc_held.specs.LogEntry.{Sight}
use Rattle.hlc_table.specs.Tables.{entry_for}

-- what a look at a write shows: the write with its rank, and its value
abbrev pub sight_of_write : List StampedEvent → ℕ → Sight
sight_of_write events w = record { entry = entry_for events w; value = value_of (event_at events w).kind }

-- what a look at a key shows at a node, from some places: the entry, if the key has one
abbrev pub sight_of_key : List StampedEvent → (ℕ → Bool) → ℕ → List ℕ → Option Sight
sight_of_key events places node key = option_map (sight_of_write events) (entry_of events places node key)
