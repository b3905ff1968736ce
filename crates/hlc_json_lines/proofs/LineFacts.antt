-- The first line of a text, and what it makes.
use Rattle.std.proofs.Common.{◌≡◌, ◌==◌, ◌<◌, ℕ, Bool, true, false, List, [], ◌∷◌, ◌++◌, Some, ap, arith, length, length-append, refl}
use Rattle.std.specs.Prelude.{if◌then◌else◌}
use Rattle.std.specs.Io.BufRead.{drop_through, take_through}
use Rattle.csv.specs.Reading.{strip_bom}
use Rattle.csv.specs.Writing.{is_blank as is_empty, row_body}
use Rattle.hlc_csv.specs.Rows.{Fields, row_setup, text_of_row}
use Rattle.hlc_json_lines.specs.EventRow.{is_blank, line_row, text_of_line}
use Rattle.hlc_json_lines.specs.Lines.{lines_of, log_text, onto_line, text_of_lines}
use Rattle.hlc_json_lines.specs.Rules.{Rules}

-- the first line and the others, by whether the first byte ends the line
lines-by : (ends : Bool) (byte : ℕ) (bytes : List ℕ)
    → onto_line byte (lines_of bytes) ≡ (byte ∷ take_through 10 bytes) ∷ lines_of (drop_through 10 bytes)
    → (if ends then (byte ∷ []) ∷ lines_of bytes else onto_line byte (lines_of bytes))
    ≡ (if ends then byte ∷ [] else byte ∷ take_through 10 bytes) ∷ lines_of (if ends then bytes else drop_through 10 bytes)
lines-by true byte bytes on = refl
lines-by false byte bytes on = on

lines-onto : (byte : ℕ) (bytes : List ℕ) → onto_line byte (lines_of bytes) ≡ (byte ∷ take_through 10 bytes) ∷ lines_of (drop_through 10 bytes)
lines-onto byte [] = refl
lines-onto byte (next ∷ bytes) = ap (onto_line byte) (lines-by (next == 10) next bytes (lines-onto next bytes))

lines-first : (byte : ℕ) (bytes : List ℕ) → lines_of (byte ∷ bytes) ≡ take_through 10 (byte ∷ bytes) ∷ lines_of (drop_through 10 (byte ∷ bytes))
lines-first byte bytes = lines-by (byte == 10) byte bytes (lines-onto byte bytes)

-- the text of a log begins with that of its first line
pub log_text-first : (rules : Rules) (bytes : List ℕ) → 0 < length (take_through 10 bytes)
    → log_text (Some rules) bytes ≡ text_of_line rules (take_through 10 bytes) ++ log_text (Some rules) (drop_through 10 bytes)
log_text-first rules [] some = absurd (omega (arith, some))
log_text-first rules (byte ∷ bytes) some = ap (text_of_lines rules) (lines-first byte bytes)

-- each row shows at least the byte that ends it
row-some : (fields : Fields) → 0 < length (text_of_row fields)
unfolding text_of_row
row-some fields =
    let quotes : List ℕ = if is_empty row_setup fields then 34 ∷ 34 ∷ [] else [] in
    omega (arith, length-append (row_body row_setup fields) (quotes ++ 10 ∷ []), length-append quotes (10 ∷ []))

unmarked-some : (rules : Rules) (line : List ℕ) (blank : Bool) → 0 < length (if blank then 10 ∷ [] else text_of_row (line_row rules line))
unmarked-some rules line true = omega arith
unmarked-some rules line false = row-some (line_row rules line)

-- so does the text of each line
pub text_of_line-some : (rules : Rules) (line : List ℕ) → 0 < length (text_of_line rules line)
text_of_line-some rules line = unmarked-some rules (strip_bom line) (is_blank (strip_bom line))
