-- The field of a record that a value makes.
use Rattle.std.specs.Prelude.{◌==◌, ℕ, List, [], ◌∷◌, ◌++◌, Option, Some, None, codes, decimal, if◌then◌else◌}
use Rattle.std.specs.List.{before_first}
use Rattle.serde_json.specs.Data.{Data, Num, array, boolean, float, negative, null, number, object, string, unsigned}
use Rattle.hlc_log_text.specs.declared.log_column.LogColumn.{LogColumn}
use Rattle.hlc_log_text.specs.declared.log_column.LogColumn.TheVariants as column

-- the text of a number: its digits, if it is whole and of at most 64 bits; no other number can be one of a log
abbrev pub number_text : Num → List ℕ
number_text (unsigned n) = decimal n
number_text (negative n) = codes "-"
number_text (float n) = codes "-"

-- the text of a value: that of a string or a number, and none of another
abbrev pub plain_text : Data → List ℕ
plain_text null = []
plain_text (boolean b) = []
plain_text (number n) = number_text n
plain_text (string bytes) = bytes
plain_text (array items) = []
plain_text (object entries) = []

-- so of a value that may be missing
abbrev pub text_if_there : Option Data → List ℕ
text_if_there None = []
text_if_there (Some value) = plain_text value

-- a byte as it is written within a line: what would end the line, and a backslash, get a backslash before them
abbrev pub line_byte : ℕ → List ℕ
line_byte byte =
    if byte == 10 then codes "\\n"
    else if byte == 13 then codes "\\r"
    else if byte == 92 then codes "\\\\"
    else byte ∷ []

-- a text as it is written within a line
abbrev pub one_line : List ℕ → List ℕ
one_line [] = []
one_line (byte ∷ text) = line_byte byte ++ one_line text

-- a text with a point for its first colon
abbrev pub with_point : List ℕ → List ℕ
with_point [] = []
with_point (byte ∷ text) = if byte == 58 then 46 ∷ text else byte ∷ with_point text

-- the stamp of a text `L:C/ID`, as `L.C`
abbrev pub stamp_text : List ℕ → List ℕ
stamp_text text = with_point (before_first (λ byte. byte == 47) text)

-- the text of a column: those of stamps are written as this program does
abbrev pub column_text : LogColumn → List ℕ → List ℕ
column_text column.Kind text = text
column_text column.Node text = text
column_text column.Reading text = text
column_text column.L text = text
column_text column.C text = text
column_text column.Stamp text = stamp_text text
column_text column.Message text = text
column_text column.From text = text
column_text column.Carried text = stamp_text text
column_text column.CarriedL text = text
column_text column.CarriedC text = text
column_text column.Seq text = text
column_text column.Label text = text

-- the field of a column that a value makes
abbrev pub field_of_value : LogColumn → Option Data → List ℕ
field_of_value column value = one_line (column_text column (text_if_there value))
