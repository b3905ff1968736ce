-- The law of lines.
use Rattle.std.specs.Prelude.{◌≡◌, ◌<◌, ℕ, List, Some, slice_get}
use Rattle.hlc_csv.specs.RecordLines.{line_of, record_lines}
use Rattle.hlc_csv.specs.declared.found_record.TheConstants.{LAST_LINE}

-- the line that is told of a record is that on which it begins, as far as lines are counted
abbrev pub LinesAreTold : Type 0
LinesAreTold = (text : List ℕ) (place line : ℕ) → slice_get (record_lines text) place ≡ Some line → line < LAST_LINE → line_of text place ≡ line
