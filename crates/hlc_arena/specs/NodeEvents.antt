-- The events of one node.
use Rattle.std.specs.Prelude.{◌≡◌, ℕ, ◌<◌, List, length}
use Rattle.hlc_arena.specs.History.{StampedEvent, event_at}

-- there is an event at e, and it is a node's
pub record IsEventOf (events : List StampedEvent) (node e : ℕ) : Type 0 where
  pub exists : e < length events
  pub at_node : (event_at events e).node ≡ node
