-- A walk along a node's events.
use Rattle.std.specs.Prelude.{◌≡◌, ℕ, Option, Some, None, List, length, IfSome}
use Rattle.hlc_stamp.specs.declared.id.EventId.{EventId}
use Rattle.hlc_arena.specs.History.{StampedEvent}
use Rattle.hlc_table.specs.Rows.{Row}
use Rattle.hlc_arena.specs.NodeEvents.{IsEventOf}
use Rattle.hlc_table.specs.Tables.{rows_before, writes_at}

-- whose events they are, what the node knows from those that were passed, and which one is next
pub record Walk : Type 0 where
  pub node : ℕ
  pub known : List Row
  pub next : Option EventId

abbrev pub walk_of : ℕ → List Row → Option EventId → Walk
walk_of node known next = record { node = node; known = known; next = next }

-- the place up to which a walk came: the next event's, or the end
abbrev pub place_of_next : List StampedEvent → Option EventId → ℕ
place_of_next events None = length events
place_of_next events (Some next) = next.0

-- the next event is one of the node's, and the table has what the node knows from the events before it
pub record StandsAt (events : List StampedEvent) (walk : Walk) : Type 0 where
  pub next_is : IfSome walk.next (λ e. IsEventOf events walk.node e.0)
  pub known_is : walk.known ≡ rows_before events walk.node (place_of_next events walk.next)

-- the writes that the next event makes known
abbrev pub next_writes : List StampedEvent → Walk → List ℕ
next_writes events walk = writes_at events (place_of_next events walk.next)
