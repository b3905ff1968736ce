-- The rows of a picture.
use Rattle.std.specs.Prelude.{ℕ, ◌-◌, List, map}
use Rattle.hlc_figures.specs.Columns.{places_from}
use Rattle.hlc_figures.specs.declared.rows.Row.{Row}
use Rattle.hlc_figures.specs.declared.rows.Row.TheVariants.{Event}
use Rattle.hlc_figures.specs.declared.rows.Rows.{Rows}
use Rattle.hlc_figures.specs.declared.rows.Rows.TheVariants.{Chain, Range}

-- a row for each event from one on before another
abbrev pub event_row : ℕ → Row
event_row e = Event (record { 0 = e })

abbrev pub event_rows : (first end : ℕ) → List Row
event_rows first end = map event_row (places_from first (end - first))

-- all rows, from the first
abbrev pub rows_in : Rows → List Row
rows_in (Range first end) = event_rows first end
rows_in (Chain rows) = rows.items
