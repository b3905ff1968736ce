-- Events of which a log doesn't tell what their clock read.
use Rattle.std.specs.Prelude.{ℕ, Bool, List, count_by, not}
use Rattle.hlc_log.specs.declared.log_event.LogEvent.{LogEvent}

-- whether a log doesn't tell what the clock read at an event
abbrev pub is_unread : LogEvent → Bool
is_unread event = not event.has_reading

-- how many such events there are
abbrev pub unread_count : List LogEvent → ℕ
unread_count events = count_by is_unread events
