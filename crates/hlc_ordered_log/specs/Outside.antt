-- Messages that came in from outside of a log.
use Rattle.std.specs.Prelude.{ℕ, Bool, true, false, List, count_by}
use Rattle.hlc_log.specs.declared.log_event.LogEvent.{LogEvent}
use Rattle.hlc_log.specs.declared.log_event.LogKind.{LogKind}
use Rattle.hlc_log.specs.declared.log_event.LogKind.TheVariants.{Local, Outside, Receive, Restart, Send}

-- whether a message came in from outside at an event of a kind
abbrev pub is_from_outside : LogKind → Bool
is_from_outside Local = false
is_from_outside (Send message) = false
is_from_outside (Receive message) = false
is_from_outside Restart = false
is_from_outside Outside = true

-- how many such events there are
abbrev pub from_outside_count : List LogEvent → ℕ
from_outside_count events = count_by (λ event. is_from_outside event.kind) events
