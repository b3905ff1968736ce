-- The order in which the events of a log stand.
use Rattle.std.specs.Prelude.{◌≡◌, ℕ, ◌<◌, Contains, List, length, map}
use Rattle.hlc_log.specs.declared.log_event.LogEvent.{LogEvent}
use Rattle.hlc_log.specs.declared.standing_order.Standing.{Standing}
use Rattle.hlc_log.specs.CausalOrder.{place_at}
use Rattle.hlc_log.specs.Events.{event_at}
use Rattle.hlc_log.specs.Standing.{StandsBefore, seq_at}

-- all places of a log, as the events there stand
pub record IsStandingOrder (events : List LogEvent) (places : List ℕ) : Type 0 where
  pub one_each : length places ≡ length events
  pub all : (e : ℕ) → e < length events → Contains places e
  pub exist : (k : ℕ) → k < length places → place_at places k < length events
  pub stand : (j k : ℕ) → j < k → k < length places → StandsBefore events (place_at places j) (place_at places k)

-- the events at places
abbrev pub arranged : List LogEvent → (places : List ℕ) → List LogEvent
arranged events places = map (event_at events) places

-- by what the event at a place stands
abbrev pub standing_at : List LogEvent → ℕ → Standing
standing_at events e = record { seq = seq_at events e; place = record { 0 = e } }
