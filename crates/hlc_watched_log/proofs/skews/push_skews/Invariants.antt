use Rattle.std.proofs.Common.{◌≡◌, ◌++◌}
use Rattle.hlc_csv.specs.Rows.{AddsText, text_of}
use Rattle.hlc_watched_log.specs.Skews.{ShownSkews, skew_rows}
use Rattle.hlc_watched_log.proofs.skews.push_skews.Given as goal

-- the skews before those that are left have their rows
abbrev pub invariant-loop-nodes : goal.invariant-loop-nodes
invariant-loop-nodes g l =
    (told : ShownSkews) × (told ++ l.nodes-iterator ≡ l.skews.entries)
    × AddsText (g.W.Write.contents l.fn.writer) (g.W.Write.contents l.writer) l.fn.rows l.rows (text_of (skew_rows l.names told))
