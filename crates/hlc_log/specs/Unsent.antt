-- Events that receive a message which nobody sends.
use Rattle.std.specs.Prelude.{◌≡◌, ◌==◌, ℕ, ◌<◌, Bool, true, false, List, Option, Some, None, count_by, if◌then◌else◌, is_some, length, map, not, slice_index_or}
use Rattle.std.specs.List.{list_any}
use Rattle.hlc_stamp.specs.Order.{Pair}
use Rattle.hlc_log.specs.declared.log_event.LogEvent.{LogEvent}
use Rattle.hlc_log.specs.declared.log_event.LogKind.{LogKind}
use Rattle.hlc_log.specs.declared.log_event.LogKind.TheVariants.{Local, Outside, Receive, Send}

-- whether an event of a kind sends message m
abbrev pub is_send : ℕ → LogKind → Bool
is_send m (Send message) = message.0 == m
is_send m _ = false

-- whether some event sends message m
abbrev pub is_sent : List LogEvent → ℕ → Bool
is_sent events m = list_any (λ event. is_send m event.kind) events

-- whether an event of a kind receives a message that no event sends
abbrev pub is_unsent : List LogEvent → LogKind → Bool
is_unsent events (Receive message) = not (is_sent events message.0)
is_unsent events _ = false

-- what an event that receives such a message is taken as: it came in from outside, if the log tells what its message carried; else it is local, if
-- that is asked for
abbrev pub taken_kind : (as_local : Bool) → Option Pair → LogKind → LogKind
taken_kind as_local (Some stamp) kind = Outside
taken_kind true None kind = Local
taken_kind false None kind = kind

-- an event, so taken if it receives a message that no event sends
abbrev pub taken_event : (as_local : Bool) → List LogEvent → LogEvent → LogEvent
taken_event as_local events event = if is_unsent events event.kind then record event { kind = taken_kind as_local event.carried event.kind } else event

-- a log with each such event so taken
abbrev pub with_unsent : (as_local : Bool) → List LogEvent → List LogEvent
with_unsent as_local events = map (taken_event as_local events) events

-- whether an event receives a message that no event sends, and the log tells, or doesn't tell, what the message carried
abbrev pub is_outside : List LogEvent → LogEvent → Bool
is_outside events event = if is_some event.carried then is_unsent events event.kind else false

abbrev pub is_untold : List LogEvent → LogEvent → Bool
is_untold events event = if is_some event.carried then false else is_unsent events event.kind

-- how many such events a log has
abbrev pub outside_count : List LogEvent → ℕ
outside_count events = count_by (is_outside events) events

abbrev pub unsent_count : List LogEvent → ℕ
unsent_count events = count_by (is_untold events) events

-- how many are taken as local
abbrev pub local_count : (as_local : Bool) → List LogEvent → ℕ
local_count as_local events = if as_local then unsent_count events else 0

-- a mark for each message: whether some event sends it
abbrev pub AreSentMarks : List LogEvent → List Bool → Type 0
AreSentMarks events marks = (m : ℕ) → m < length marks → slice_index_or marks m false ≡ is_sent events m

-- whether an event of a kind receives a message that has no mark
abbrev pub is_unmarked : List Bool → LogKind → Bool
is_unmarked marks (Receive message) = not (slice_index_or marks message.0 false)
is_unmarked marks _ = false
