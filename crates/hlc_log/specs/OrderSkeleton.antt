-- The events of a log in an order, as causality sees them.
use Rattle.std.specs.Prelude.{◌==◌, ℕ, Option, None, List, map, option_and_then, position}
use Rattle.std.specs.List.{position_or_len}
use Rattle.hlc_causality.specs.declared.receives.Receives.{Receives}
use Rattle.hlc_causality.specs.Causality.{Skeleton, SkeletonEvent}
use Rattle.hlc_causality.specs.ReceiveEvents.{ClockRules}
use Rattle.hlc_log.specs.declared.log_event.LogEvent.{LogEvent}
use Rattle.hlc_log.specs.declared.log_event.LogKind.{LogKind}
use Rattle.hlc_log.specs.declared.log_event.LogKind.TheVariants.{Receive}
use Rattle.hlc_log.specs.Events.{event_at, own_rule}
use Rattle.hlc_log.specs.Unsent.{is_send}

-- the place of the first event that sends what is received
abbrev pub send_place : List LogEvent → LogKind → Option ℕ
send_place events (Receive message) = position (λ event. is_send message.0 event.kind) events
send_place events _ = None

-- where the event at a place stands in an order
abbrev pub position_of : List ℕ → ℕ → Option ℕ
position_of order e = position (λ place. place == e) order

-- the same, or the order's length if it stands nowhere
abbrev pub index_in : List ℕ → ℕ → ℕ
index_in order e = position_or_len (λ place. place == e) order

-- the event at a place as causality sees it, in an order
abbrev pub skeleton_event_in : List LogEvent → List ℕ → ℕ → SkeletonEvent
skeleton_event_in events order e = record {
  node = (event_at events e).node.0;
  reading = (event_at events e).reading;
  send = option_and_then (position_of order) (send_place events (event_at events e).kind);
}

-- the skeleton of a log in an order
abbrev pub skeleton_in : List LogEvent → List ℕ → Skeleton
skeleton_in events order = map (skeleton_event_in events order) order

-- the rules of its clocks, with those that its events have of their own, in an order
abbrev pub rules_in : Receives → List LogEvent → List ℕ → ClockRules
rules_in receives events order = record { receives = receives; own = map (λ e. own_rule receives (event_at events e)) order }
