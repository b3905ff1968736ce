-- The rows of an audit as one object of JSON.
use Rattle.std.specs.Prelude.{◌≡◌, ◌==◌, ℕ, ◌+◌, Bool, List, [], ◌∷◌, ◌++◌, bytes_eq, codes, drop, filter, if◌then◌else◌, length, map}
use Rattle.std.specs.List.{join_with_byte}
use Rattle.hlc_csv.specs.Rows.{Fields, field_of}
use Rattle.hlc_audit_forms.specs.ToldRows.{AreRowsOf}
use Rattle.hlc_audit_forms.specs.JsonColumn.{member_text}
use Rattle.hlc_audit_forms.specs.AnswerRow.{lists_lines}
use Rattle.hlc_audit_forms.specs.JsonMember.{member_columns, member_name, member_of_word}
use Rattle.hlc_audit_forms.specs.JsonText.{comma_before, json_list, json_member, json_object, json_string}
use Rattle.hlc_audit_forms.specs.declared.json_column.JsonColumn.{JsonColumn}
use Rattle.hlc_audit_forms.specs.declared.json_member.JsonMember.{JsonMember}
use Rattle.hlc_audit_forms.specs.declared.json_member.TheConstants.{MEMBERS}

-- the member of a row
abbrev pub row_member : Fields → JsonMember
row_member fields = member_of_word (field_of fields 0)

-- the columns of a row
abbrev pub row_columns : Fields → List JsonColumn
row_columns fields = member_columns (row_member fields) fields

-- the members of the object of a row for columns, the first of which has the field at a place
abbrev pub column_members : (place : ℕ) → List JsonColumn → Fields → List (List ℕ)
column_members place [] fields = []
column_members place (column ∷ columns) fields = member_text column (field_of fields place) ∷ column_members (place + 1) columns fields

-- a member with a list of lines
abbrev pub lines_member : List (List ℕ) → List ℕ
lines_member lines = json_member (codes "lines") (json_list (map json_string lines))

-- the lines that stand in a row after so many fields: none if it says there that there are none
abbrev pub lines_from : (columns : ℕ) → Fields → List (List ℕ)
lines_from columns fields = if bytes_eq (field_of fields columns) (codes "none") then [] else drop columns fields

-- the member with the fields of a row after those of its columns, if these are lines
abbrev pub line_members : Fields → List (List ℕ)
line_members fields = if lists_lines (field_of fields 0) then lines_member (lines_from (length (row_columns fields)) fields) ∷ [] else []

-- so it stands in the text of the object, behind the members of so many columns
abbrev pub lines_behind : (columns : ℕ) → Fields → List ℕ
lines_behind columns fields =
    if lists_lines (field_of fields 0) then comma_before (columns == 0) ++ lines_member (lines_from columns fields) else []

-- a row as an object
unfoldable pub row_object : Fields → List ℕ
row_object fields = json_object (column_members 0 (row_columns fields) fields ++ line_members fields)

-- whether a row is one of a member
abbrev pub is_row_of : JsonMember → Fields → Bool
is_row_of m fields = bytes_eq (member_name (row_member fields)) (member_name m)

-- the rows of a member, in their order
unfoldable pub rows_member : List Fields → JsonMember → List ℕ
rows_member rows m = json_member (member_name m) (json_list (map row_object (filter (is_row_of m) rows)))

-- all members, each with its rows
unfoldable pub members_text : List Fields → List ℕ
members_text rows = join_with_byte 44 (map (rows_member rows) MEMBERS)

-- rows as one object, and a line's end
abbrev pub json_text : List Fields → List ℕ
json_text rows = 123 ∷ (members_text rows ++ 125 ∷ 10 ∷ [])

-- a text of rows is written as this one
abbrev pub IsJsonOf : (text json : List ℕ) → Type 0
IsJsonOf text json = (rows : List Fields) × AreRowsOf text rows × (json ≡ json_text rows)
