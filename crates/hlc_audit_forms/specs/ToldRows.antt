-- The rows of a text.
use Rattle.std.specs.Prelude.{ℕ, List, Some}
use Rattle.hlc_csv.specs.Records.{AreAllOf, IsOnly}
use Rattle.hlc_csv.specs.Rows.{Fields}

-- a text is these rows, and no others
abbrev pub AreRowsOf : (text : List ℕ) → List Fields → Type 0
AreRowsOf text rows = AreAllOf (Some text) rows × IsOnly (Some text) rows
