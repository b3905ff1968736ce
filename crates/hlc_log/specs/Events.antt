-- The events of a log.
use Rattle.std.specs.Prelude.{◌≡◌, ℕ, ◌<◌, ◌≤◌, IfSome, List, Option, Some, None, slice_index_or, true, unwrap_or}
use Rattle.hlc_stamp.specs.declared.limits.TheConstants.{MAX_READING}
use Rattle.hlc_stamp.specs.Order.{Pair, zero_pair}
use Rattle.hlc_causality.specs.declared.event_rule.EventRule.{EventRule}
use Rattle.hlc_causality.specs.declared.event_rule.TheConstants.{MAX_FLOOR_C}
use Rattle.hlc_causality.specs.declared.receives.Receives.{Receives}
use Rattle.hlc_causality.specs.ClockEvents.{ClockEvent}
use Rattle.hlc_causality.specs.LeastFeasible.{greater, next_pair}
use Rattle.hlc_causality.specs.ReceiveEvents.{receive_event}
use Rattle.hlc_log.specs.declared.log_event.LogEvent.{LogEvent}
use Rattle.hlc_log.specs.declared.log_event.LogKind.{LogKind}
use Rattle.hlc_log.specs.declared.log_event.TheConstants.{MAX_LOG_NODES}
use Rattle.hlc_log.specs.declared.log_event.LogKind.TheVariants.{Local, Outside, Receive, Restart, Send}

-- what event_at answers past the end
abbrev pub no_event : LogEvent
no_event = record { node = record { 0 = 0 }; reading = 0; has_reading = true; kind = Local; stamp = zero_pair; has_stamp = true; carried = None; seq = 0; line = 0 }

-- the event at a place
abbrev pub event_at : List LogEvent → ℕ → LogEvent
event_at events e = slice_index_or events e no_event

-- an event with this stamp, or of this kind, in place of its own
abbrev pub with_stamp : Pair → LogEvent → LogEvent
with_stamp stamp event = record event { stamp = stamp }

abbrev pub of_kind : LogKind → LogEvent → LogEvent
of_kind kind event = record event { kind = kind }

-- the message, if there is one, has a number below n
abbrev pub IsMessageBelow : ℕ → LogKind → Type 0
IsMessageBelow n Local = Unit {0}
IsMessageBelow n (Send message) = message.0 < n
IsMessageBelow n (Receive message) = message.0 < n
IsMessageBelow n Restart = Unit {0}
IsMessageBelow n Outside = Unit {0}

-- an event is of a node below MAX_LOG_NODES, and its message, if it has one, is one of the first so many
pub record IsNumbered (messages : ℕ) (event : LogEvent) : Type 0 where
  pub node : event.node.0 < MAX_LOG_NODES
  pub message : IsMessageBelow messages event.kind

-- a receive with a reading, as the clocks read it
abbrev pub receive_at : Receives → ℕ → ClockEvent
receive_at receives reading = receive_event receives (record { node = 0; reading = reading; send = Some 0 })

-- the rule of a receive that comes directly after a stamp which its message carried
abbrev pub outside_rule : Receives → ℕ → Pair → EventRule
outside_rule receives reading carried =
    let asked = receive_at receives reading in
    record { floor = greater asked.floor (next_pair asked.ticks carried); ticks = asked.ticks }

-- the rule that an event has of its own, by its kind: a restart isn't below the stamp that the log claims for it, and ticks; what came in from
-- outside comes after what its message carried; others have none
abbrev pub rule_by : Receives → LogEvent → LogKind → Option EventRule
rule_by receives event Restart = Some (record { floor = event.stamp; ticks = true })
rule_by receives event Outside = Some (outside_rule receives event.reading (unwrap_or event.carried zero_pair))
rule_by receives event _ = None

-- the rule that an event has of its own, if it has one
abbrev pub own_rule : Receives → LogEvent → Option EventRule
own_rule receives event = rule_by receives event event.kind

-- a stamp that a message carried has room for each c above it
abbrev pub IsSmallCarried : Option Pair → Type 0
IsSmallCarried carried = IfSome carried (λ p. p.c < MAX_FLOOR_C)

-- the reading of an event is one that a clock may have, and the floor that it has of its own, if it has one, has room for each c above it;
-- the stamp of a restart is told
pub record IsInRange (event : LogEvent) : Type 0 where
  pub positive : 1 ≤ event.reading
  pub in_range : event.reading ≤ MAX_READING
  pub floor : event.kind ≡ Restart → event.stamp.c ≤ MAX_FLOOR_C
  pub carried : IsSmallCarried event.carried
  pub told : event.kind ≡ Restart → event.has_stamp ≡ true
