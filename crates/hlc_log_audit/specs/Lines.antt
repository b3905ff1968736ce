-- The lines of a log, and the events whose records begin there.
use Rattle.std.specs.Prelude.{◌≡◌, ◌==◌, ℕ, ◌<◌, All, List, Option, length, position}
use Rattle.hlc_log.specs.CausalOrder.{place_at}
use Rattle.hlc_log.specs.Events.{event_at}
use Rattle.hlc_log.specs.declared.log_event.LogEvent.{LogEvent}
use Rattle.hlc_ordered_log.specs.InOrder.{LogInOrder}

-- the position of the event of a line, if there is one
abbrev pub position_on : LogInOrder → ℕ → Option ℕ
position_on log line = position (λ e. (event_at log.events e).line == line) log.order

-- some positions are those of events
abbrev pub AreEventsIn : LogInOrder → List ℕ → Type 0
AreEventsIn log positions = All (λ k. k < length log.events) positions

-- the record of the event at a place begins on a line
pub record IsOnLine (events : List LogEvent) (line place : ℕ) : Type 0 where
  pub exists : place < length events
  pub on_line : (event_at events place).line ≡ line

-- an event has this place in the log and this position in the order
pub record HasNumbers (log : LogInOrder) (place position : ℕ) : Type 0 where
  pub exists : position < length log.events
  pub at_place : place_at log.order position ≡ place
