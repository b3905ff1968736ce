-- Rows with labels.
use Rattle.std.specs.Prelude.{ℕ, List, [], ◌∷◌, ◌++◌, Option, Some, None}
use Rattle.hlc_csv.specs.Rows.{Fields}

-- fields with a label behind them, if there is one
abbrev pub and_label : Fields → Option (List ℕ) → Fields
and_label fields None = fields
and_label fields (Some label) = fields ++ label ∷ []
