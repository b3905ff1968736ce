-- Logs that tell the same in different orders, with the stamps that they claim.
use Rattle.std.specs.Prelude.{◌≡◌, ℕ, true, ◌<◌, List, length}
use Rattle.hlc_stamp.specs.Order.{Pair}
use Rattle.hlc_causality.specs.ClockEvents.{ClockEvents, clock_skeleton}
use Rattle.hlc_log.specs.CausalOrder.{IsEarlierOf, place_at}
use Rattle.hlc_log.specs.Events.{event_at}
use Rattle.hlc_log.specs.declared.log_event.LogEvent.{LogEvent}
use Rattle.hlc_log.specs.OrderSkeleton.{index_in}
use Rattle.hlc_log.specs.Standing.{StandsBefore}
use Rattle.hlc_log.specs.Reordering.{HaveEqualPairs, IsClockReordering, IsReorderedLog}
use Rattle.hlc_ordered_log.specs.InOrder.{IsInOrder, LogInOrder, filled_event}

-- u is a reordering of t, and the events that correspond claim equal stamps
pub record IsReorderedTrace (t u : ClockEvents) (claimed others : List Pair) (to back : ℕ → ℕ) : Type 0 where
  pub events : IsClockReordering t u to back
  pub claims : HaveEqualPairs (clock_skeleton t) to claimed others

-- the events that correspond claim equal stamps, where stamps are told
abbrev pub KeepsToldClaims : (events others : List LogEvent) → (to : ℕ → ℕ) → Type 0
KeepsToldClaims events others to = (e : ℕ) → e < length events → (event_at events e).has_stamp ≡ true →
    (event_at others (to e)).stamp ≡ (event_at events e).stamp

-- two logs in order, whose clocks do the same at receives, tell the same: a map takes the events of the one, by their places, to those of the
-- other, and another takes them back
pub record TellTheSame (log other : LogInOrder) (to back : ℕ → ℕ) : Type 0 where
  pub receives : other.receives ≡ log.receives
  pub ordered : IsInOrder log
  pub other_ordered : IsInOrder other
  pub events : IsReorderedLog log.events other.events to back
  pub claims : KeepsToldClaims log.events other.events to

-- where the event at a position of a log stands in the order of another
abbrev pub moved_position : (log other : LogInOrder) → (to : ℕ → ℕ) → ℕ → ℕ
moved_position log other to k = index_in other.order (to (place_at log.order k))

-- another log has just the events of a log, each as it is and with its line, but for a stamp that isn't told, in an order in which each
-- node's own events stay in theirs
pub record IsRearranged (log other : LogInOrder) (to back : ℕ → ℕ) : Type 0 where
  pub receives : other.receives ≡ log.receives
  pub ordered : IsInOrder log
  pub other_ordered : IsInOrder other
  pub size : length other.events ≡ length log.events
  pub there : (e : ℕ) → e < length log.events → to e < length other.events
  pub here : (f : ℕ) → f < length other.events → back f < length log.events
  pub back_here : (e : ℕ) → e < length log.events → back (to e) ≡ e
  pub back_there : (f : ℕ) → f < length other.events → to (back f) ≡ f
  pub same : (e : ℕ) → e < length log.events →
      event_at other.events (to e) ≡ filled_event (event_at log.events e) (event_at other.events (to e)).stamp
  pub at_node : (d e : ℕ) → IsEarlierOf log.events d e → StandsBefore other.events (to d) (to e)
