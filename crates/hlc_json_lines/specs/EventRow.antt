-- The row that a line makes.
use Rattle.std.specs.Prelude.{◌≡◌, ◌==◌, ◌||◌, ℕ, Bool, true, false, List, [], ◌∷◌, Option, Some, None, codes, if◌then◌else◌, map, unwrap_or}
use Rattle.std.specs.List.{list_all}
use Rattle.std.specs.Str.{is_utf8}
use Rattle.csv.specs.Reading.{strip_bom}
use Rattle.serde_json.specs.Data.{Data}
use Rattle.serde_json.specs.Read.{read}
use Rattle.hlc_csv.specs.Rows.{Fields, text_of_row}
use Rattle.hlc_log_text.specs.FileMarks.{before_bytes, file_name}
use Rattle.hlc_log_text.specs.LogWord.{word_text}
use Rattle.hlc_log_text.specs.declared.log_column.LogColumn.{LogColumn}
use Rattle.hlc_log_text.specs.declared.log_column.LogColumn.TheVariants as column
use Rattle.hlc_log_text.specs.declared.log_word.LogWord.{LogWord}
use Rattle.hlc_json_lines.specs.FieldText.{field_of_value, text_if_there}
use Rattle.hlc_json_lines.specs.Paths.{value_at}
use Rattle.hlc_json_lines.specs.Rules.{Rules, after_point, before_point, path_of, word_of}

-- the columns after that of the word
abbrev pub event_columns : List LogColumn
event_columns =
    column.Node ∷ column.Reading ∷ column.L ∷ column.C ∷ column.Stamp ∷ column.Message ∷ column.From ∷ column.Carried ∷ column.CarriedL ∷ column.CarriedC
    ∷ column.Seq ∷ column.Label ∷ []

-- the field of a column that an object has under the own path of the column, in an event of a word
abbrev pub own_field : Rules → LogWord → Data → LogColumn → List ℕ
own_field rules word value column = field_of_value column (value_at (path_of rules.paths (Some word) column) value)

-- the field of one of the two columns of a stamp: its own; or if the other's is empty too, what the stamp has for it that is one field
abbrev pub part_field : (own other of_whole : List ℕ) → List ℕ
part_field [] [] of_whole = of_whole
part_field [] (byte ∷ other) of_whole = []
part_field (byte ∷ own) other of_whole = byte ∷ own

-- of the two columns of a stamp one was read, or if both are empty, the stamp that is one field
abbrev pub IsPartRead : Rules → LogWord → Data → (own other whole : LogColumn) → (is_whole : Bool) → List ℕ → Type 0
IsPartRead rules word value own other whole true field =
    (own_field rules word value own ≡ []) × (own_field rules word value other ≡ []) × (field ≡ own_field rules word value whole)
IsPartRead rules word value own other whole false field = (of_whole : List ℕ) → part_field (own_field rules word value own) (own_field rules word value other) of_whole ≡ field

-- so for columns of an object, where a stamp that is one field has a point between its two parts, or no second one
abbrev pub first_part : Rules → LogWord → Data → (l c stamp : LogColumn) → List ℕ
first_part rules word value l c stamp = part_field (own_field rules word value l) (own_field rules word value c) (before_point (own_field rules word value stamp))

abbrev pub second_part : Rules → LogWord → Data → (l c stamp : LogColumn) → List ℕ
second_part rules word value l c stamp = part_field (own_field rules word value c) (own_field rules word value l) (after_point (own_field rules word value stamp))

-- the field of a column
abbrev pub column_field : Rules → LogWord → Data → LogColumn → List ℕ
column_field rules word value column.Kind = own_field rules word value column.Kind
column_field rules word value column.Node = own_field rules word value column.Node
column_field rules word value column.Reading = own_field rules word value column.Reading
column_field rules word value column.L = first_part rules word value column.L column.C column.Stamp
column_field rules word value column.C = second_part rules word value column.L column.C column.Stamp
column_field rules word value column.Stamp = own_field rules word value column.Stamp
column_field rules word value column.Message = own_field rules word value column.Message
column_field rules word value column.From = own_field rules word value column.From
column_field rules word value column.Carried = own_field rules word value column.Carried
column_field rules word value column.CarriedL = first_part rules word value column.CarriedL column.CarriedC column.Carried
column_field rules word value column.CarriedC = second_part rules word value column.CarriedL column.CarriedC column.Carried
column_field rules word value column.Seq = own_field rules word value column.Seq
column_field rules word value column.Label = own_field rules word value column.Label

-- the fields of columns
abbrev pub column_fields : Rules → LogWord → Data → List LogColumn → Fields
column_fields rules word value columns = map (column_field rules word value) columns

-- the row of a line that tells of no event
abbrev pub skipped_row : Fields
skipped_row = codes "skipped" ∷ []

-- the row of a value that has a word of an event, or none
abbrev pub event_row : Rules → Data → Option LogWord → Fields
event_row rules value None = skipped_row
event_row rules value (Some word) = word_text word ∷ column_fields rules word value event_columns

-- the word of the event that a value tells of
abbrev pub word_in : Rules → Data → Option LogWord
word_in rules value = word_of rules.kinds (text_if_there (value_at (path_of rules.paths None column.Kind) value))

-- the row of a line that is a value, or isn't
abbrev pub value_row : Rules → Option Data → Fields
value_row rules None = skipped_row
value_row rules (Some value) = event_row rules value (word_in rules value)

-- the value that bytes are
abbrev pub value_of : List ℕ → Option Data
value_of bytes = if is_utf8 bytes then read bytes else None

-- whether a byte is a space, a tab, or ends a line
abbrev pub is_blank_byte : ℕ → Bool
is_blank_byte byte = byte == 32 || byte == 9 || byte == 13 || byte == 10

-- whether nothing else stands in a line
abbrev pub is_blank : List ℕ → Bool
is_blank line = list_all is_blank_byte line

-- a line without a line feed at its end, and without a carriage return before that
abbrev pub without_end : List ℕ → List ℕ
without_end line =
    let unfed = unwrap_or (before_bytes (10 ∷ []) line) line in
    unwrap_or (before_bytes (13 ∷ []) unfed) unfed

-- the row of a line: the mark of a file of this name, or that of its value if it marks none
abbrev pub row_by_file : Rules → List ℕ → Option (List ℕ) → Fields
row_by_file rules line None = value_row rules (value_of line)
row_by_file rules line (Some name) = without_end line ∷ []

unfoldable pub line_row : Rules → List ℕ → Fields
line_row rules line = row_by_file rules line (file_name (without_end line))

-- the text that a line without a byte order mark makes
abbrev pub text_of_unmarked : Rules → List ℕ → List ℕ
text_of_unmarked rules line = if is_blank line then 10 ∷ [] else text_of_row (line_row rules line)

-- the text that a line makes
abbrev pub text_of_line : Rules → List ℕ → List ℕ
text_of_line rules line = text_of_unmarked rules (strip_bom line)
