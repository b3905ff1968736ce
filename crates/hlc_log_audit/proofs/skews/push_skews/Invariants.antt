use Rattle.std.proofs.Common.{◌≡◌, ◌++◌, map}
use Rattle.hlc_csv.specs.Rows.{AddsText, text_of}
use Rattle.hlc_ordered_log.specs.Skew.{Skews}
use Rattle.hlc_log_audit.specs.Report.{skew_row}
use Rattle.hlc_log_audit.proofs.skews.push_skews.Given as goal

-- the skews before those that are left have their rows
abbrev pub invariant-loop-between : goal.invariant-loop-between
invariant-loop-between g l =
    (told : Skews) × (told ++ l.between-iterator ≡ l.skews.entries)
    × AddsText (g.W.Write.contents l.fn.writer) (g.W.Write.contents l.writer) l.fn.rows l.rows (text_of (map (skew_row l.files l.nodes l.log) told))
