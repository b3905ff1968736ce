use Rattle.std.proofs.Common.{map, take}
use Rattle.hlc_csv.specs.Rows.{AddsText, text_of}
use Rattle.hlc_open_log.specs.Unopened.{bad_record_row}
use Rattle.hlc_open_log.proofs.telling.push_records.Given as goal

-- the first of them have their rows
abbrev pub invariant-loop-record : goal.invariant-loop-record
invariant-loop-record g l =
    AddsText (g.W.Write.contents l.fn.writer) (g.W.Write.contents l.writer) l.fn.rows l.rows (text_of (map bad_record_row (take l.record-index l.bad)))
