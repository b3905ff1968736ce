-- The records of a text that JSON lines make.
use Rattle.std.specs.Prelude.{ℕ, List, [], ◌∷◌, ◌++◌, Some, if◌then◌else◌}
use Rattle.csv.specs.Reading.{strip_bom}
use Rattle.hlc_csv.specs.Records.{AreAllOf, IsOnly}
use Rattle.hlc_csv.specs.Rows.{Fields}
use Rattle.hlc_json_lines.specs.EventRow.{is_blank, line_row}
use Rattle.hlc_json_lines.specs.Lines.{lines_of, log_text}
use Rattle.hlc_json_lines.specs.Rules.{Rules}

-- the rows of a line without a byte order mark: none, if it is blank
abbrev pub rows_of_unmarked : Rules → List ℕ → List Fields
rows_of_unmarked rules line = if is_blank line then [] else line_row rules line ∷ []

-- the rows of lines
abbrev pub rows_of : Rules → List (List ℕ) → List Fields
rows_of rules [] = []
rows_of rules (line ∷ lines) = rows_of_unmarked rules (strip_bom line) ++ rows_of rules lines

-- the records of the text that JSON lines make are the rows of these lines, and no others are
abbrev pub LinesReadAsRows : Type 0
LinesReadAsRows = (rules : Rules) (bytes : List ℕ) →
    AreAllOf (Some (log_text (Some rules) bytes)) (rows_of rules (lines_of bytes)) × IsOnly (Some (log_text (Some rules) bytes)) (rows_of rules (lines_of bytes))
