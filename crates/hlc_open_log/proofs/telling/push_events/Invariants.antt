use Rattle.std.proofs.Common.{map, take}
use Rattle.hlc_csv.specs.Rows.{AddsText, text_of}
use Rattle.hlc_open_log.specs.Unopened.{bad_event_row}
use Rattle.hlc_open_log.proofs.telling.push_events.Given as goal

-- the first of them have their rows
abbrev pub invariant-loop-event : goal.invariant-loop-event
invariant-loop-event g l =
    AddsText (g.W.Write.contents l.fn.writer) (g.W.Write.contents l.writer) l.fn.rows l.rows (text_of (map bad_event_row (take l.event-index l.bad)))
