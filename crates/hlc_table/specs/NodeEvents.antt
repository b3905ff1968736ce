-- The events of one node, in order.
use Rattle.std.specs.Prelude.{ℕ, ◌<◌, ◌≤◌, Option, Some, None, List}
use Rattle.hlc_stamp.specs.declared.id.EventId.{EventId}
use Rattle.hlc_arena.specs.History.{StampedEvent}
use Rattle.hlc_arena.specs.NodeEvents.{IsEventOf}

-- the next event of a node from a place on
pub record IsNextFrom (events : List StampedEvent) (node low e : ℕ) : Type 0 where
  pub event : IsEventOf events node e
  pub from : low ≤ e
  pub first : (d : ℕ) → IsEventOf events node d → low ≤ d → e ≤ d

-- the next event of a node from a place on, or none if it has no more
abbrev pub NamesNextFrom : List StampedEvent → ℕ → ℕ → Option EventId → Type 0
NamesNextFrom events node low None = (d : ℕ) → IsEventOf events node d → d < low
NamesNextFrom events node low (Some e) = IsNextFrom events node low e.0
