-- Receives whose stamp a log doesn't tell.
use Rattle.std.specs.Prelude.{ℕ, Bool, List, count_by, not}
use Rattle.hlc_log.specs.declared.log_event.LogEvent.{LogEvent}

-- whether a log doesn't tell the stamp of an event
abbrev pub is_unstamped : LogEvent → Bool
is_unstamped event = not event.has_stamp

-- how many such events there are
abbrev pub unstamped_count : List LogEvent → ℕ
unstamped_count events = count_by is_unstamped events
