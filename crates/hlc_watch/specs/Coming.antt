-- The events of a log as they come: their places are in the order of its lines.
use Rattle.std.specs.Prelude.{◌≡◌, ◌≢◌, ◌⊎◌, ◌↔◌, ◌==◌, ◌+◌, ◌<◌, ◌≤◌, ℕ, zero, suc, List, Option, Some, None, if◌then◌else◌, length, map, max, option_map}
use Rattle.hlc_stamp.specs.Order.{Pair}
use Rattle.hlc_causality.specs.declared.receives.Receives.{Receives}
use Rattle.hlc_causality.specs.ClockEvents.{ClockEvents}
use Rattle.hlc_causality.specs.ReceiveEvents.{clock_events}
use Rattle.hlc_causes.specs.declared.answers.Causes.{Causes}
use Rattle.hlc_causes.specs.Seen.{seen_at}
use Rattle.hlc_log.specs.declared.log_event.LogEvent.{LogEvent}
use Rattle.hlc_log.specs.declared.log_event.LogKind.{LogKind}
use Rattle.hlc_log.specs.declared.log_event.LogKind.TheVariants as kind
use Rattle.hlc_log.specs.CausalOrder.{place_at}
use Rattle.hlc_log.specs.Events.{event_at}
use Rattle.hlc_log.specs.Messages.{Receives as ReceivesMessage, Sends, SendsTo}
use Rattle.hlc_log.specs.OrderSkeleton.{rules_in, skeleton_in}
use Rattle.hlc_log.specs.Standing.{seq_at}
use Rattle.hlc_watch.specs.declared.file_line.FileLine.{FileLine}
use Rattle.hlc_watch.specs.declared.records.Claimed.{Claimed}
use Rattle.hlc_watch.specs.declared.records.LineCauses.{LineCauses}
use Rattle.hlc_watch.specs.declared.records.Records.{Records}
use Rattle.hlc_watch.specs.declared.ruled_event.RuledEvent.{RuledEvent}
use Rattle.hlc_watch.specs.Records.{ruled_by, told_reading}

-- where the record at a place stands, by the number of its file
abbrev pub line_of : (files : ℕ → ℕ) → List LogEvent → ℕ → FileLine
line_of files events e = record { file = files e; number = (event_at events e).line }

-- the event at a place, as a clock rule reads it
abbrev pub ruled_at : Receives → (files : ℕ → ℕ) → List LogEvent → ℕ → RuledEvent
ruled_at receives files events e = ruled_by receives (files e) (event_at events e)

-- what the record at a place claims
abbrev pub claimed_at : (files : ℕ → ℕ) → List LogEvent → ℕ → Claimed
claimed_at files events e =
    let event = event_at events e in
    record { node = event.node; line = line_of files events e; reading = told_reading event; stamp = event.stamp }

-- the latest event of a node that came before the one at a place
abbrev pub latest_of : List LogEvent → (node n : ℕ) → Option ℕ
latest_of events node zero = None
latest_of events node (suc n) = if (event_at events n).node.0 == node then Some n else latest_of events node n

-- the event before e at its node
abbrev pub previous_at : List LogEvent → ℕ → Option ℕ
previous_at events e = latest_of events (event_at events e).node.0 e

-- the answer is the send of what e receives, wherever it stands, or None if e receives nothing
abbrev pub NamesSender : List LogEvent → ℕ → Option ℕ → Type 0
NamesSender events e None = (m : ℕ) → ¬ ReceivesMessage events e m
NamesSender events e (Some d) = SendsTo events d e

-- an event has this message
abbrev pub HasMessage : List LogEvent → ℕ → (m : ℕ) → Type 0
HasMessage events e m = Sends events e m ⊎ ReceivesMessage events e m

-- the names that events come with tell their messages apart: those of one message have one name, and those of others another
abbrev pub TellApart : (names : ℕ → List ℕ) → List LogEvent → Type 0
TellApart names events = (d e m k : ℕ) → HasMessage events d m → HasMessage events e k → (names d ≡ names e) ↔ (m ≡ k)

-- the records of e, that of the event before it at its node, and that of its send
abbrev pub records_at : Receives → (files : ℕ → ℕ) → List LogEvent → ℕ → (send : Option ℕ) → Records
records_at receives files events e send = record {
  event = ruled_at receives files events e;
  previous = option_map (claimed_at files events) (previous_at events e);
  send = option_map (claimed_at files events) send;
}

-- the place of the last of these
abbrev pub last_needed : ℕ → (send : Option ℕ) → ℕ
last_needed e None = e
last_needed e (Some d) = max e d

-- how many messages an event sends
abbrev pub sends_in : LogKind → ℕ
sends_in (kind.Send message) = 1
sends_in _ = 0

-- the first n events of a list together
abbrev pub sent_count : List LogEvent → ℕ → ℕ
sent_count events zero = 0
sent_count events (suc n) = sent_count events n + sends_in (event_at events n).kind

-- the events of each node come as they stand there
abbrev pub NodesStandAsTheyCome : List LogEvent → Type 0
NodesStandAsTheyCome events =
    (d e : ℕ) → d < e → e < length events → (event_at events d).node.0 ≡ (event_at events e).node.0 → seq_at events d ≤ seq_at events e

-- each event has a line of its own
abbrev pub LinesDiffer : (files : ℕ → ℕ) → List LogEvent → Type 0
LinesDiffer files events = (d e : ℕ) → d < e → e < length events → line_of files events d ≢ line_of files events e

-- the events of a log in an order, as a clock rule reads them
abbrev pub clocks_in : Receives → List LogEvent → List ℕ → ClockEvents
clocks_in receives events order = clock_events (rules_in receives events order) (skeleton_in events order)

-- the stamps that it claims, in that order
abbrev pub stamps_in : List LogEvent → List ℕ → List Pair
stamps_in events order = map (λ e. (event_at events e).stamp) order

-- the same, as the event at k saw them: of its send the stamp that its message carried, if the log tells that
abbrev pub seen_in : Receives → List LogEvent → List ℕ → ℕ → List Pair
seen_in receives events order k =
    seen_at (clocks_in receives events order) (stamps_in events order) (λ j. (event_at events (place_at order j)).carried) k

-- the line of the event at k
abbrev pub line_at : (files : ℕ → ℕ) → List LogEvent → List ℕ → ℕ → FileLine
line_at files events order k = line_of files events (place_at order k)

-- causes in an order, by lines
abbrev pub by_lines : (files : ℕ → ℕ) → List LogEvent → List ℕ → Causes → LineCauses
by_lines files events order causes = record {
  behind = causes.behind;
  not_above_previous = option_map (λ d. line_at files events order d.0) causes.not_above_previous;
  not_above_send = option_map (λ d. line_at files events order d.0) causes.not_above_send;
  ahead = causes.ahead;
}
