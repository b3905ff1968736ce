-- What the fields of rows are called, and how their values are written.
use Rattle.std.specs.Prelude.{◌==◌, ◌&&◌, ◌||◌, ℕ, Bool, not, List, [], ◌∷◌, bytes_eq, codes, if◌then◌else◌, length}
use Rattle.std.specs.Char.{is_ascii_digit}
use Rattle.std.specs.List.{list_all}
use Rattle.hlc_audit_forms.specs.JsonText.{json_member, json_string}
use Rattle.hlc_audit_forms.specs.declared.json_column.JsonColumn.{JsonColumn}
use Rattle.hlc_audit_forms.specs.declared.json_column.JsonColumn.TheVariants as column
use Rattle.hlc_audit_forms.specs.declared.value_form.ValueForm.{ValueForm}
use Rattle.hlc_audit_forms.specs.declared.value_form.ValueForm.TheVariants.{Line, Number, Text, Truth}

-- the name of a column
abbrev pub column_name : JsonColumn → List ℕ
column_name column.Row = codes "row"
column_name column.Line = codes "line"
column_name column.Why = codes "why"
column_name column.Column = codes "column"
column_name column.Message = codes "message"
column_name column.Verdict = codes "verdict"
column_name column.N = codes "n"
column_name column.Node = codes "node"
column_name column.Rule = codes "rule"
column_name column.Of = codes "of"
column_name column.Before = codes "before"
column_name column.Swapped = codes "swapped"
column_name column.L = codes "l"
column_name column.C = codes "c"
column_name column.Events = codes "events"
column_name column.Ahead = codes "ahead"
column_name column.Origin = codes "origin"
column_name column.Sent = codes "sent"
column_name column.Received = codes "received"
column_name column.Repeated = codes "repeated"
column_name column.Open = codes "open"
column_name column.From = codes "from"
column_name column.To = codes "to"
column_name column.Send = codes "send"
column_name column.Receive = codes "receive"
column_name column.Factor = codes "factor"
column_name column.Word = codes "word"
column_name column.Other = codes "other"
column_name column.How = codes "how"
column_name column.IsChain = codes "is_chain"
column_name column.Reading = codes "reading"
column_name column.LeastL = codes "least_l"
column_name column.LeastC = codes "least_c"
column_name column.Label = codes "label"

-- how the values of a column are written
abbrev pub column_form : JsonColumn → ValueForm
column_form column.N = Number
column_form column.L = Number
column_form column.C = Number
column_form column.Events = Number
column_form column.Ahead = Number
column_form column.Sent = Number
column_form column.Received = Number
column_form column.Repeated = Number
column_form column.Open = Number
column_form column.Factor = Number
column_form column.Reading = Number
column_form column.LeastL = Number
column_form column.LeastC = Number
column_form column.Swapped = Truth
column_form column.IsChain = Truth
column_form column.Line = Line
column_form _ = Text

-- a field without the minus sign with which it begins, if it does
abbrev pub without_minus : List ℕ → List ℕ
without_minus [] = []
without_minus (byte ∷ field) = if byte == 45 then field else byte ∷ field

-- whether a field is digits, behind a minus sign or not
abbrev pub is_decimal : List ℕ → Bool
is_decimal field = not (length (without_minus field) == 0) && list_all is_ascii_digit (without_minus field)

-- a field as the value of a form: a text that is empty, a line that is `none`, too, or a number that is none, is `null`; nothing and `no` are
-- false, and all else is true
abbrev pub value_text : ValueForm → List ℕ → List ℕ
value_text Text field = if length field == 0 then codes "null" else json_string field
value_text Line field = if (length field == 0) || bytes_eq field (codes "none") then codes "null" else json_string field
value_text Number field = if is_decimal field then field else codes "null"
value_text Truth field = if (length field == 0) || bytes_eq field (codes "no") then codes "false" else codes "true"

-- a field as a member of an object
abbrev pub member_text : JsonColumn → List ℕ → List ℕ
member_text c field = json_member (column_name c) (value_text (column_form c) field)
