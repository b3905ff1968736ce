-- Lawful histories: what requests may have made.
use Rattle.std.specs.Prelude.{◌≡◌, ℕ, ◌≤◌, Some, List}
use Rattle.hlc_stamp.specs.declared.limits.TheConstants.{MAX_READING}
use Rattle.hlc_arena.specs.Arena.{IsWellFormed, MayFollow}
use Rattle.hlc_arena.specs.History.{EachAfterOthers, Event, EventKind, History, Sent, StampedEvent, Synced}
use Rattle.hlc_arena.specs.Known.{entry_of, everywhere, table_writes}

-- a message carries entries of its node, after other events: a send that of a key, a sync those of its whole table
abbrev pub CarriesEntries : List StampedEvent → ℕ → EventKind → Type 0
CarriesEntries others node (Sent to write) = (key : List ℕ) × (entry_of others everywhere node key ≡ Some write)
CarriesEntries others node (Synced to writes) = writes ≡ table_writes others everywhere node
CarriesEntries others node _ = Unit {0}

-- what a request adds to what may follow: the reading of a clock, and that a message carries entries
pub record IsRequested (others : List StampedEvent) (e : Event) : Type 0 where
  pub positive : 1 ≤ e.reading
  pub in_range : e.reading ≤ MAX_READING
  pub entries : CarriesEntries others e.node e.kind

-- an event that may come next, after others, by a request
pub record IsLawfulNext (nodes : ℕ) (others : List StampedEvent) (e : Event) : Type 0 where
  pub follows : MayFollow nodes others e
  pub requested : IsRequested others e

-- a well-formed history, each event of which may have come by a request
pub record IsLawful (h : History) : Type 0 where
  pub well_formed : IsWellFormed h
  pub requested : EachAfterOthers (λ others x. IsRequested others x.event) h.events
