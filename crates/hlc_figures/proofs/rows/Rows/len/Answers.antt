use Rattle.std.proofs.Common.{◌∙◌, sym}
use Rattle.hlc_figures.proofs.EventRows.{length-event_rows}
use Rattle.hlc_figures.proofs.rows.Rows.len.Goals as goal

pub returns-in-Range : goal.returns-in-Range
returns-in-Range c = rw c.in-Range.is (c.saturating_sub.ensures ∙ sym (length-event_rows c.in-Range.first c.in-Range.end))
