-- On which lines the records of a text begin.
use Rattle.std.specs.Prelude.{◌==◌, ◌&&◌, ◌||◌, ℕ, Bool, true, false, ◌+◌, List, [], ◌∷◌, ◌++◌, if◌then◌else◌, max, min, not, slice_index_or}
use Rattle.csv.specs.Machine.{carriage_return, line_feed, step}
use Rattle.csv.specs.Reading.{default_config, strip_bom}
use Rattle.csv.specs.declared.parser.State.{State}
use Rattle.csv.specs.declared.parser.State.TheVariants as st
use Rattle.hlc_csv.specs.declared.found_record.TheConstants.{LAST_LINE}

-- whether a byte ends a line: a carriage return does, and a line feed that doesn't come right after one
abbrev pub ends_line : (after_cr : Bool) → ℕ → Bool
ends_line after_cr byte = (byte == carriage_return) || ((byte == line_feed) && not after_cr)

-- the line after a byte; lines are counted up to the last one
abbrev pub line_after : (after_cr : Bool) → (line : ℕ) → ℕ → ℕ
line_after after_cr line byte = if ends_line after_cr byte then min (line + 1) LAST_LINE else line

-- whether csv's machine stands between records
abbrev pub is_between : State → Bool
is_between st.StartRecord = true
is_between st.AfterCr = true
is_between st.StartField = false
is_between st.InField = false
is_between st.InQuoted = false
is_between st.AfterQuote = false
is_between st.InEscape = false
is_between st.InComment = false

-- whether a byte is the first of a record: the machine stands between records, and the byte belongs to no line's end
abbrev pub begins_record : State → ℕ → Bool
begins_record s byte = is_between s && not (byte == carriage_return) && not (byte == line_feed)

-- the lines on which records begin in bytes, from a state of the machine on
abbrev pub lines_from : State → (after_cr : Bool) → (line : ℕ) → List ℕ → List ℕ
lines_from s after_cr line [] = []
lines_from s after_cr line (byte ∷ bytes) =
    (if begins_record s byte then line ∷ [] else [])
    ++ lines_from (step default_config s byte).0 (byte == carriage_return) (line_after after_cr line byte) bytes

-- so for a whole text
abbrev pub record_lines : List ℕ → List ℕ
record_lines text = lines_from st.StartRecord false 1 (strip_bom text)

-- each line, or the one after the line before it, if that is greater: past the last line that is counted
abbrev pub rising : (before : ℕ) → List ℕ → List ℕ
rising before [] = []
rising before (line ∷ lines) = max line (before + 1) ∷ rising (max line (before + 1)) lines

-- the line that is told of each record of a text
abbrev pub told_lines : List ℕ → List ℕ
told_lines text = rising 0 (record_lines text)

-- the line that is told of the record at a place
abbrev pub line_of : List ℕ → (place : ℕ) → ℕ
line_of text place = slice_index_or (told_lines text) place 0
