-- Orders in which the events of a log can have happened.
use Rattle.std.specs.Prelude.{◌≡◌, ℕ, ◌<◌, ◌⊎◌, Contains, List, length, slice_index_or, take}
use Rattle.hlc_log.specs.declared.log_event.LogEvent.{LogEvent}
use Rattle.hlc_log.specs.Events.{event_at}
use Rattle.hlc_log.specs.Messages.{SendsTo}
use Rattle.hlc_log.specs.Standing.{StandsBefore}

-- the place that stands at k in an order
abbrev pub place_at : List ℕ → ℕ → ℕ
place_at order k = slice_index_or order k 0

-- e and f are of the same node, and e stands before f
pub record IsEarlierOf (events : List LogEvent) (e f : ℕ) : Type 0 where
  pub before : StandsBefore events e f
  pub first_exists : e < length events
  pub exists : f < length events
  pub same_node : (event_at events e).node.0 ≡ (event_at events f).node.0

-- f can't happen before e has: e is earlier at its node, or sends what it receives
abbrev pub Needs : List LogEvent → ℕ → ℕ → Type 0
Needs events f e = IsEarlierOf events e f ⊎ SendsTo events e f

-- f may come next after other events: it isn't one of them, and all that it needs are
pub record MayComeNext (events : List LogEvent) (before : List ℕ) (f : ℕ) : Type 0 where
  pub exists : f < length events
  pub new : ¬ Contains before f
  pub needed : (e : ℕ) → Needs events f e → Contains before e

-- events in an order in which each may come next after those before it
abbrev pub IsCausalPrefix : List LogEvent → List ℕ → Type 0
IsCausalPrefix events order = (k : ℕ) → k < length order → MayComeNext events (take k order) (place_at order k)

-- all events in such an order
pub record IsCausalOrder (events : List LogEvent) (order : List ℕ) : Type 0 where
  pub causal : IsCausalPrefix events order
  pub all : (e : ℕ) → e < length events → Contains order e

-- e is an event that has no place in any such order
pub record Waits (events : List LogEvent) (e : ℕ) : Type 0 where
  pub exists : e < length events
  pub never : (order : List ℕ) → IsCausalPrefix events order → ¬ Contains order e

-- the log tells of the event at f after the one that sends what it receives, if it receives something
abbrev pub ComesAfterSend : List LogEvent → ℕ → Type 0
ComesAfterSend events f = (e : ℕ) → SendsTo events e f → e < f

-- so it does of each event
abbrev pub SendsComeFirst : List LogEvent → Type 0
SendsComeFirst events = (f : ℕ) → ComesAfterSend events f
