-- Events of logs as C sees them.
use Rattle.std.specs.Prelude.{◌==◌, ℕ, Option, Some, None, if◌then◌else◌, option_map}
use Rattle.hlc_log_line.specs.declared.log_event.LogEvent.{LogEvent}
use Rattle.hlc_log_line.specs.declared.log_kind.LogKind.{LogKind}
use Rattle.hlc_log_line.specs.declared.log_kind.LogKind.TheVariants.{Local, Receive, Restart, Send}
use Rattle.hlc_c.specs.declared.claim.TheConstants.{HLC_LOCAL, HLC_RECEIVE, HLC_SEND}
use Rattle.hlc_c.specs.declared.log_event.CLogEvent.{CLogEvent}
use Rattle.hlc_c.specs.declared.log_event.TheConstants.{HLC_RESTART}

-- the kind that a number stands for, if it stands for one
abbrev pub log_kind_of : ℕ → Option LogKind
log_kind_of kind =
    if kind == HLC_LOCAL then Some Local else if kind == HLC_SEND then Some Send else if kind == HLC_RECEIVE then Some Receive
    else if kind == HLC_RESTART then Some Restart else None

-- the event that C means, if its kind is one
abbrev pub event_from_c : CLogEvent → Option LogEvent
event_from_c given = option_map
    (λ kind. record { kind = kind; node = given.node; reading = given.reading; message = given.message; from = given.from; label = given.label })
    (log_kind_of given.kind)
