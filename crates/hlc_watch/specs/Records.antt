-- Events as a clock rule reads them, the records that tell what an event breaks, and what they tell.
use Rattle.std.specs.Prelude.{ℕ, Bool, Option, Some, None, ◌==◌, ◌&&◌, if◌then◌else◌, option_map}
use Rattle.hlc_stamp.specs.Order.{Pair}
use Rattle.hlc_causality.specs.declared.event_rule.EventRule.{EventRule}
use Rattle.hlc_causality.specs.declared.receives.Receives.{Receives}
use Rattle.hlc_causality.specs.ClockEvents.{ClockEvent}
use Rattle.hlc_causality.specs.ReceiveEvents.{event_by}
use Rattle.hlc_causes.specs.declared.local.LocalCauses.{LocalCauses}
use Rattle.hlc_causes.specs.declared.local.LocalEvent.{LocalEvent}
use Rattle.hlc_causes.specs.Local.{local_causes}
use Rattle.hlc_log.specs.declared.log_event.LogEvent.{LogEvent}
use Rattle.hlc_log.specs.declared.log_event.LogKind.{LogKind}
use Rattle.hlc_log.specs.declared.log_event.LogKind.TheVariants as kind
use Rattle.hlc_log.specs.Events.{own_rule}
use Rattle.hlc_watch.specs.declared.file_line.FileLine.{FileLine}
use Rattle.hlc_watch.specs.declared.message_role.MessageRole.{MessageRole}
use Rattle.hlc_watch.specs.declared.message_role.MessageRole.TheVariants as role
use Rattle.hlc_watch.specs.declared.records.Claimed.{Claimed}
use Rattle.hlc_watch.specs.declared.records.LineCauses.{LineCauses}
use Rattle.hlc_watch.specs.declared.records.Records.{Records}
use Rattle.hlc_watch.specs.declared.ruled_event.RuledEvent.{RuledEvent}

-- that it receives something, by the number of the message
abbrev pub received : LogKind → Option ℕ
received (kind.Receive message) = Some message.0
received _ = None

-- what it does with its message
abbrev pub role_of : LogKind → MessageRole
role_of (kind.Send message) = role.Send
role_of (kind.Receive message) = role.Receive
role_of _ = role.Local

-- an event among clocks that do this at receives: it has a rule of its own, or that of such clocks
abbrev pub clock_event_by : Receives → LogEvent → ClockEvent
clock_event_by receives event =
    event_by receives (own_rule receives event) (record { node = event.node.0; reading = event.reading; send = received event.kind })

-- what the clock read, if the log tells that
abbrev pub told_reading : LogEvent → Option ℕ
told_reading event = if event.has_reading then Some event.reading else None

-- what the clock rule asks of it
abbrev pub rule_by : Receives → LogEvent → EventRule
rule_by receives event = let x = clock_event_by receives event in record { floor = x.floor; ticks = x.ticks }

-- an event that stands in a file as a clock rule reads it, with what the log tells of it beside
abbrev pub ruled_by : Receives → (file : ℕ) → LogEvent → RuledEvent
ruled_by receives file event =
    record {
      node = event.node;
      line = record { file = file; number = event.line };
      reading = told_reading event;
      rule = rule_by receives event;
      role = role_of event.kind;
      stamp = event.stamp;
      carried = event.carried;
    }

-- what the line of an event claims
abbrev pub claimed_by : RuledEvent → Claimed
claimed_by event = record { node = event.node; line = event.line; reading = event.reading; stamp = event.stamp }

-- records with that of the send
abbrev pub with_send : Claimed → Records → Records
with_send send records = record records { send = Some send }

-- whether two lines are the same one
abbrev pub is_same_line : FileLine → FileLine → Bool
is_same_line a b = (a.file == b.file) && (a.number == b.number)

-- a claimed stamp as an event saw it that receives from this line what carried this stamp
abbrev pub seen_by : (send : Option Claimed) → (carried : Option Pair) → Claimed → Pair
seen_by (Some send) (Some p) claimed = if is_same_line send.line claimed.line then p else claimed.stamp
seen_by _ _ claimed = claimed.stamp

-- the same, of records
abbrev pub seen_stamp : Records → Claimed → Pair
seen_stamp records claimed = seen_by records.send records.event.carried claimed

-- what the clock rule looks at
abbrev pub local_event_of : Records → LocalEvent
local_event_of records = record {
  rule = records.event.rule;
  stamp = records.event.stamp;
  previous = option_map (seen_stamp records) records.previous;
  send = option_map (seen_stamp records) records.send;
}

-- the line of a record, if a rule is broken by its stamp
abbrev pub line_if : Bool → Option Claimed → Option FileLine
line_if broken claimed = if broken then option_map (λ c. c.line) claimed else None

-- what local causes are by lines
abbrev pub lined : (previous send : Option Claimed) → LocalCauses → LineCauses
lined previous send causes = record {
  behind = causes.behind;
  not_above_previous = line_if causes.not_above_previous previous;
  not_above_send = line_if causes.not_above_send send;
  ahead = causes.ahead;
}

-- the rules that records tell to be broken
abbrev pub line_causes : (full : ℕ) → Records → LineCauses
line_causes full records = lined records.previous records.send (local_causes full (local_event_of records))
