-- The row of an event.
use Rattle.std.specs.Prelude.{ℕ, ◌++◌, List, codes, decimal, map}
use Rattle.std.specs.List.{flat_map}
use Rattle.hlc_causality.specs.Places.{places_below}
use Rattle.hlc_figures.specs.Columns.{column_x}
use Rattle.hlc_figures.specs.Content.{Content}
use Rattle.hlc_svg.specs.declared.frame.Frame.{Frame}

-- a text beside the lanes, and where it begins
pub record Cell : Type 0 where
  pub x : ℕ
  pub y : ℕ
  pub text : List ℕ

-- the cell of an event in a column, at a height
abbrev pub cell_at : Content → Frame → (y e column : ℕ) → Cell
cell_at c frame y e column = record { x = column_x c frame column; y = y; text = c.cell e column }

-- the row of an event at a height: a cell in each column
abbrev pub row_at : Content → Frame → (y e : ℕ) → List Cell
row_at c frame y e = map (cell_at c frame y e) (places_below c.columns)

-- how a cell begins
abbrev pub begin_text : (x y : ℕ) → List ℕ
begin_text x y = codes "<text x=\"" ++ (decimal x ++ (codes "\" y=\"" ++ (decimal y ++ codes "\" dy=\"4\">")))

unfoldable pub cell_text : Cell → List ℕ
cell_text cell = begin_text cell.x cell.y ++ (cell.text ++ codes "</text>")

-- the text of a row
abbrev pub row_text : List Cell → List ℕ
row_text cells = flat_map cell_text cells ++ codes "\n"
