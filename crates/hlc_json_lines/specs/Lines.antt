-- The text that JSON lines make, line by line.
use Rattle.std.specs.Prelude.{◌==◌, ℕ, List, [], ◌∷◌, ◌++◌, Option, Some, None, if◌then◌else◌}
use Rattle.hlc_json_lines.specs.EventRow.{text_of_line}
use Rattle.hlc_json_lines.specs.Rules.{Rules}

-- a byte before the first line, or alone in a line
abbrev pub onto_line : ℕ → List (List ℕ) → List (List ℕ)
onto_line byte [] = (byte ∷ []) ∷ []
onto_line byte (line ∷ lines) = (byte ∷ line) ∷ lines

-- the lines of bytes, each with the line feed that ends it; the last one may have none
abbrev pub lines_of : List ℕ → List (List ℕ)
lines_of [] = []
lines_of (byte ∷ bytes) = if byte == 10 then (byte ∷ []) ∷ lines_of bytes else onto_line byte (lines_of bytes)

-- the texts that lines make, one after the other
abbrev pub text_of_lines : Rules → List (List ℕ) → List ℕ
text_of_lines rules [] = []
text_of_lines rules (line ∷ lines) = text_of_line rules line ++ text_of_lines rules lines

-- the text of a log, in records: JSON lines, if rules say how they are read, or records already
abbrev pub log_text : Option Rules → List ℕ → List ℕ
log_text None bytes = bytes
log_text (Some rules) bytes = text_of_lines rules (lines_of bytes)
