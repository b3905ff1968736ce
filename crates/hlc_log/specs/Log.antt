-- Logs as they are kept.
use Rattle.std.specs.Prelude.{List}
use Rattle.hlc_log.specs.declared.log_event.LogEvent.{LogEvent}

-- a log as it is kept: its events in the order of its lines
pub record StoredLog : Type 0 where
  pub events : List LogEvent
