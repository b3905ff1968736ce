-- The text that JSON lines make is read back as the rows of the lines.
use Rattle.std.proofs.Common.{◌≡◌, ◌∙◌, ◌==◌, ℕ, Bool, true, false, List, [], ◌∷◌, ◌++◌, Option, Some, None, ap, append-nil, cond, length, refl, subst, sym}
use Rattle.std.specs.Prelude.{if◌then◌else◌}
use Rattle.csv.specs.Machine.{next_record}
use Rattle.csv.specs.Reading.{AreRecords, Reached, default_config, strip_bom}
use Rattle.csv.specs.declared.parser.State.{State}
use Rattle.csv.specs.declared.parser.State.TheVariants as st
use Rattle.serde_json.specs.Data.{Data}
use Rattle.hlc_csv.specs.Records.{AreAllOf}
use Rattle.hlc_csv.specs.Rows.{Fields, row_setup, text_of_row}
use Rattle.hlc_csv.proofs.RecordFacts.{are_all-only}
use Rattle.hlc_csv.proofs.RowsReadBack.{read_row}
use Rattle.hlc_log_text.specs.FileMarks.{file_name}
use Rattle.hlc_log_text.specs.declared.log_word.LogWord.{LogWord}
use Rattle.hlc_log_text.specs.declared.log_word.LogWord.TheVariants as word
use Rattle.hlc_json_lines.specs.EventRow.{event_row, is_blank, line_row, row_by_file, value_of, value_row, without_end, word_in}
use Rattle.hlc_json_lines.specs.Laws.{LinesReadAsRows, rows_of}
use Rattle.hlc_json_lines.specs.Lines.{lines_of, log_text, text_of_lines}
use Rattle.hlc_json_lines.specs.Rules.{Rules}
use Rattle.csv.specs.Writing.{default_writer, escaped, field_text, fields_text, is_blank as is_empty, needs_quotes, row_text}
use Rattle.csv.proofs.RoundTrip.{read-write}
use Rattle.hlc_json_lines.proofs.FileFacts.{mark_begins}
use Rattle.hlc_json_lines.proofs.RowFacts.{skipped-row}

-- a row of an event, and one of no event, with text after it
read-event : (rules : Rules) (value : Data) (w : Option LogWord) (tail : List ℕ)
    → next_record default_config st.StartRecord [] [] (text_of_row (event_row rules value w) ++ tail) ≡ Some (event_row rules value w, st.StartRecord, tail)
unfolding next_record
read-event rules value (Some w) tail = read_row (event_row rules value (Some w)) tail tt
read-event rules value None tail = rw skipped-row refl

read-value : (rules : Rules) (value : Option Data) (tail : List ℕ)
    → next_record default_config st.StartRecord [] [] (text_of_row (value_row rules value) ++ tail) ≡ Some (value_row rules value, st.StartRecord, tail)
unfolding next_record
read-value rules None tail = rw skipped-row refl
read-value rules (Some value) tail = read-event rules value (word_in rules value) tail

-- a field of its own, which shows something
escaped-same : (field : List ℕ) → escaped row_setup field ≡ escaped default_writer field
unfolding escaped
escaped-same [] = refl
escaped-same (b ∷ field) = ap (λ (rest : List ℕ). cond (b == 34) (34 ∷ b ∷ rest) (b ∷ rest)) (escaped-same field)

field_text-same : (field : List ℕ) → field_text row_setup field ≡ field_text default_writer field
field_text-same field = ap (λ (rest : List ℕ). cond (needs_quotes default_writer field) (34 ∷ (rest ++ 34 ∷ [])) field) (escaped-same field)

read-field : (byte : ℕ) (rest tail : List ℕ)
    → next_record default_config st.StartRecord [] [] (text_of_row ((byte ∷ rest) ∷ []) ++ tail) ≡ Some ((byte ∷ rest) ∷ [], st.StartRecord, tail)
unfolding text_of_row is_empty fields_text
read-field byte rest tail =
    let same : text_of_row ((byte ∷ rest) ∷ []) ≡ row_text default_writer ((byte ∷ rest) ∷ []) = rw (field_text-same (byte ∷ rest)) refl in
    ap (λ (text : List ℕ). next_record default_config st.StartRecord [] [] (text ++ tail)) same ∙ read-write ((byte ∷ rest) ∷ []) tail

read-line : (rules : Rules) (line : List ℕ) (file : Option (List ℕ)) → file_name (without_end line) ≡ file → (tail : List ℕ)
    → next_record default_config st.StartRecord [] [] (text_of_row (row_by_file rules line file) ++ tail) ≡ Some (row_by_file rules line file, st.StartRecord, tail)
read-line rules line None is tail = read-value rules (value_of line) tail
read-line rules line (Some name) is tail =
    let begins = mark_begins (without_end line) name is in
    subst (λ (mark : List ℕ). next_record default_config st.StartRecord [] [] (text_of_row (mark ∷ []) ++ tail) ≡ Some (mark ∷ [], st.StartRecord, tail)) (sym begins.1)
    (read-field 61 begins.0 tail)

-- an empty line is passed over
read-empty : (tail : List ℕ) → next_record default_config st.StartRecord [] [] (10 ∷ tail) ≡ next_record default_config st.StartRecord [] [] tail
unfolding next_record
read-empty tail = refl

-- so records are the same after an empty line
skip-empty : (text : List ℕ) (rows : List Fields) → AreRecords default_config st.StartRecord text rows → AreRecords default_config st.StartRecord (10 ∷ text) rows
unfolding Reached
skip-empty text [] read = (
  st.StartRecord,
  10 ∷ text,
  (refl, refl),
  read-empty text ∙ subst (λ (s : State). next_record default_config s [] [] text ≡ None) (sym read.2.0)
      (subst (λ (t : List ℕ). next_record default_config read.0 [] [] t ≡ None) (sym read.2.1) read.3),
)
skip-empty text (row ∷ rows) read = (read.0, read.1, (read.2.0, read-empty text ∙ read.2.1, read.2.2, read.2.3), read.3)

-- a row before other records
row-before : (rules : Rules) (line : List ℕ) (text : List ℕ) (rows : List Fields) → AreRecords default_config st.StartRecord text rows
    → AreRecords default_config st.StartRecord (text_of_row (line_row rules line) ++ text) (line_row rules line ∷ rows)
unfolding Reached line_row
row-before rules line text rows read =
    (read.0, read.1, ((line_row rules line, st.StartRecord, text), read-line rules line (file_name (without_end line)) refl text, refl, read.2), read.3)

line-before : (rules : Rules) (line : List ℕ) (blank : Bool) (text : List ℕ) (rows : List Fields) → AreRecords default_config st.StartRecord text rows
    → AreRecords default_config st.StartRecord ((if blank then 10 ∷ [] else text_of_row (line_row rules line)) ++ text)
    ((if blank then [] else line_row rules line ∷ []) ++ rows)
line-before rules line true text rows read = skip-empty text rows read
line-before rules line false text rows read = row-before rules line text rows read

are-rows : (rules : Rules) (lines : List (List ℕ)) → AreRecords default_config st.StartRecord (text_of_lines rules lines) (rows_of rules lines)
unfolding Reached next_record
are-rows rules [] = (st.StartRecord, [], (refl, refl), refl)
are-rows rules (line ∷ lines) =
    line-before rules (strip_bom line) (is_blank (strip_bom line)) (text_of_lines rules lines) (rows_of rules lines) (are-rows rules lines)

-- no such text begins with a byte order mark
unmarked : (byte : ℕ) (text : List ℕ) → (byte == 239) ≡ false → strip_bom (byte ∷ text) ≡ byte ∷ text
unfolding strip_bom
unmarked byte [] other = refl
unmarked byte (b ∷ []) other = refl
unmarked byte (b ∷ c ∷ text) other = rw other refl

unmarked-event : (rules : Rules) (value : Data) (w : Option LogWord) (tail : List ℕ)
    → strip_bom (text_of_row (event_row rules value w) ++ tail) ≡ text_of_row (event_row rules value w) ++ tail
unfolding text_of_row
unmarked-event rules value None tail = unmarked 115 _ refl
unmarked-event rules value (Some word.Local) tail = unmarked 108 _ refl
unmarked-event rules value (Some word.Send) tail = unmarked 115 _ refl
unmarked-event rules value (Some word.Receive) tail = unmarked 114 _ refl
unmarked-event rules value (Some word.Restart) tail = unmarked 114 _ refl

unmarked-value : (rules : Rules) (value : Option Data) (tail : List ℕ)
    → strip_bom (text_of_row (value_row rules value) ++ tail) ≡ text_of_row (value_row rules value) ++ tail
unfolding text_of_row
unmarked-value rules None tail = unmarked 115 _ refl
unmarked-value rules (Some value) tail = unmarked-event rules value (word_in rules value) tail

-- a text that begins with one of two bytes, and text after it
either_unmarked : (test : Bool) (quoted rest end more : List ℕ)
    → strip_bom (((cond test (34 ∷ quoted) (61 ∷ rest)) ++ end) ++ more) ≡ ((cond test (34 ∷ quoted) (61 ∷ rest)) ++ end) ++ more
either_unmarked true quoted rest end more = unmarked 34 _ refl
either_unmarked false quoted rest end more = unmarked 61 _ refl

unmarked-field : (rest more : List ℕ) → strip_bom (text_of_row ((61 ∷ rest) ∷ []) ++ more) ≡ text_of_row ((61 ∷ rest) ∷ []) ++ more
unfolding text_of_row is_empty fields_text
unmarked-field rest more =
    let field = 61 ∷ rest in
    subst (λ (text : List ℕ). strip_bom (text ++ more) ≡ text ++ more) (sym (row_begins field))
    (either_unmarked (needs_quotes row_setup field) (escaped row_setup field ++ 34 ∷ []) rest (end_of field) more) where
      end_of : List ℕ → List ℕ
      end_of field = (if length (field_text row_setup field) == 0 then 34 ∷ 34 ∷ [] else []) ++ 10 ∷ []

      row_begins : (field : List ℕ) → text_of_row (field ∷ []) ≡ field_text row_setup field ++ end_of field
      row_begins field = rw (append-nil (field_text row_setup field)) refl

unmarked-row : (rules : Rules) (line : List ℕ) (file : Option (List ℕ)) → file_name (without_end line) ≡ file → (tail : List ℕ)
    → strip_bom (text_of_row (row_by_file rules line file) ++ tail) ≡ text_of_row (row_by_file rules line file) ++ tail
unmarked-row rules line None is tail = unmarked-value rules (value_of line) tail
unmarked-row rules line (Some name) is tail =
    let begins = mark_begins (without_end line) name is in
    subst (λ (mark : List ℕ). strip_bom (text_of_row (mark ∷ []) ++ tail) ≡ text_of_row (mark ∷ []) ++ tail) (sym begins.1) (unmarked-field begins.0 tail)

unmarked-line : (rules : Rules) (line : List ℕ) (blank : Bool) (text : List ℕ)
    → strip_bom ((if blank then 10 ∷ [] else text_of_row (line_row rules line)) ++ text)
    ≡ (if blank then 10 ∷ [] else text_of_row (line_row rules line)) ++ text
unfolding line_row
unmarked-line rules line true text = unmarked 10 text refl
unmarked-line rules line false text = unmarked-row rules line (file_name (without_end line)) refl text

unmarked-lines : (rules : Rules) (lines : List (List ℕ)) → strip_bom (text_of_lines rules lines) ≡ text_of_lines rules lines
unfolding strip_bom
unmarked-lines rules [] = refl
unmarked-lines rules (line ∷ lines) = unmarked-line rules (strip_bom line) (is_blank (strip_bom line)) (text_of_lines rules lines)

-- the records of the text are the rows
pub lines_read_as_rows : LinesReadAsRows
lines_read_as_rows rules bytes =
    let text = log_text (Some rules) bytes in
    let rows = rows_of rules (lines_of bytes) in
    let all : AreAllOf (Some text) rows =
    subst (λ (t : List ℕ). AreRecords default_config st.StartRecord t rows) (sym (unmarked-lines rules (lines_of bytes))) (are-rows rules (lines_of bytes)) in
    (all, are_all-only (Some text) rows all)
