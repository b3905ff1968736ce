use Rattle.std.proofs.Common.{take}
use Rattle.std.specs.List.{flat_map}
use Rattle.hlc_csv.specs.Rows.{AddsText, text_of}
use Rattle.hlc_watched_log.specs.CauseRows.{cause_rows}
use Rattle.hlc_watched_log.proofs.event_rows.push_each.Given as goal

-- the first of them have their rows
abbrev pub invariant-loop-records : goal.invariant-loop-records
invariant-loop-records g l =
    AddsText (g.W.Write.contents l.fn.writer) (g.W.Write.contents l.writer) l.fn.rows l.rows
    (text_of (flat_map (cause_rows l.names l.full) (take l.records-index l.complete)))
