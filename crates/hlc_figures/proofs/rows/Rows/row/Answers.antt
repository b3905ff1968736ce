use Rattle.std.proofs.Common.{◌∙◌, sym}
use Rattle.hlc_figures.proofs.EventRows.{event_row_at, row_in_range}
use Rattle.hlc_figures.proofs.rows.Rows.row.Goals as goal

pub event_row-requires : goal.event_row-requires
event_row-requires c = row_in_range c.in-Range.first c.in-Range.end c.args.place (rw c.in-Range.is at c.requires)

pub returns-in-Range : goal.returns-in-Range
returns-in-Range c =
    λ other. c.event_row.ensures ∙ (rw c.in-Range.is (sym (event_row_at c.in-Range.first c.in-Range.end c.args.place other (rw c.in-Range.is at c.requires))))
