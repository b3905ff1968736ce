use Rattle.hlc_history_log.specs.LogRows.{log_row}
use Rattle.hlc_history_log.proofs.RowsAdded.{HasWritten}
use Rattle.hlc_history_log.proofs.log.write_log.Given as goal

-- the events before this one have their rows
abbrev pub invariant-loop-event : goal.invariant-loop-event
invariant-loop-event g l = HasWritten (log_row l.history.events) l.event (g.W.Write.contents l.fn.writer) (g.W.Write.contents l.writer) l.rows
