-- A walk along a log and the events of its node, side by side.
use Rattle.std.specs.Prelude.{◌≡◌, ◌==◌, ◌++◌, ◌∷◌, [], ℕ, List, Option, filter}
use Rattle.hlc_stamp.specs.declared.id.EventId.{EventId}
use Rattle.hlc_arena.specs.History.{StampedEvent, event_at}
use Rattle.hlc_causality.specs.Places.{places_below}
use Rattle.hlc_table.specs.NodeWalk.{place_of_next}
use Rattle.hlc_held.specs.Agreement.{FitsThere, places_of_node}
use Rattle.hlc_held.specs.LogEntry.{LogEntry, events_named}

-- the node's events that were passed, rising
abbrev pub places_passed : List StampedEvent → ℕ → Option EventId → List ℕ
places_passed events node next = filter (λ e. (event_at events e).node == node) (places_below (place_of_next events next))

-- an entry fits, and if it names an event, it names the next one, which is then passed
pub record GoesOn (events : List StampedEvent) (node : ℕ) (entry : LogEntry) (old new : Option EventId) : Type 0 where
  pub fits : FitsThere events node (places_passed events node old) entry
  pub names : places_passed events node old ++ events_named (entry ∷ []) ≡ places_passed events node new

-- no log that agrees has this entry there
abbrev pub Strays : List StampedEvent → ℕ → LogEntry → Option EventId → Type 0
Strays events node entry next =
    FitsThere events node (places_passed events node next) entry →
    (rest : List ℕ) → (places_passed events node next ++ events_named (entry ∷ [])) ++ rest ≡ places_of_node events node → ⊥
