-- The columns of a log.
use Rattle.std.specs.Prelude.{◌==◌, ◌&&◌, ℕ, Bool, false, List, [], ◌∷◌, ◌++◌, Option, Some, None, Result, Ok, Err, bytes_eq, if◌then◌else◌, length, nat_lt, not}
use Rattle.std.specs.List.{position_or_len}
use Rattle.hlc_causality.specs.declared.event_rule.TheConstants.{MAX_FLOOR_C}
use Rattle.hlc_stamp.specs.declared.stamp.Stamp.{Stamp}
use Rattle.hlc_csv.specs.Number.{number_of}
use Rattle.hlc_csv.specs.Rows.{Fields, field_of}
use Rattle.hlc_log_text.specs.BadColumn.{bad_of_carried}
use Rattle.hlc_log_text.specs.declared.columns.Columns.{Columns}
use Rattle.hlc_log_text.specs.declared.extras.Extras.{Extras}
use Rattle.hlc_log_text.specs.declared.log_column.LogColumn.{LogColumn}
use Rattle.hlc_log_text.specs.declared.log_column.LogColumn.TheVariants as column
use Rattle.hlc_log_text.specs.declared.log_word.LogWord.{LogWord}
use Rattle.hlc_log_text.specs.declared.log_word.LogWord.TheVariants as word
use Rattle.hlc_log_text.specs.declared.record_syntax.RecordSyntax.{RecordSyntax}
use Rattle.hlc_log_text.specs.declared.record_syntax.RecordSyntax.TheVariants.{Csv, JsonLines}
use Rattle.hlc_log_text.specs.declared.stamp_form.StampForm.{StampForm}
use Rattle.hlc_log_text.specs.declared.stamp_form.StampForm.TheVariants.{Dotted, Packed, Pair}
use Rattle.hlc_log_text.specs.LogColumn.{column_name}
use Rattle.hlc_log_text.specs.LogWord.{log_word_of}
use Rattle.hlc_log_text.specs.StampForms.{fields_stamp}

-- whether a record begins as a header does
abbrev pub begins_as_header : Fields → Bool
begins_as_header fields = bytes_eq (field_of fields 0) (column_name column.Kind)

-- where the first column of a name stands, or the end of the header if it has none
abbrev pub column_in : Fields → (name : List ℕ) → ℕ
column_in header name = position_or_len (λ field. bytes_eq field name) header

-- the columns that a header names
abbrev pub columns_of : Fields → Columns
columns_of header = record {
  count = length header;
  node = column_in header (column_name column.Node);
  reading = column_in header (column_name column.Reading);
  l = column_in header (column_name column.L);
  c = column_in header (column_name column.C);
  stamp = column_in header (column_name column.Stamp);
  carried = column_in header (column_name column.Carried);
  carried_l = column_in header (column_name column.CarriedL);
  carried_c = column_in header (column_name column.CarriedC);
  message = column_in header (column_name column.Message);
  from = column_in header (column_name column.From);
  seq = column_in header (column_name column.Seq);
  label = column_in header (column_name column.Label);
}

-- all columns, in the order of `all_columns`
abbrev pub all_columns_in_place : Columns
all_columns_in_place = record {
  count = 13;
  node = 1;
  reading = 2;
  l = 3;
  c = 4;
  stamp = 5;
  message = 6;
  from = 7;
  carried = 8;
  carried_l = 9;
  carried_c = 10;
  seq = 11;
  label = 12;
}

-- the columns of a log in a syntax, whose header names these, if it has one: records of JSON lines have all
abbrev pub columns_by : RecordSyntax → (named : Option Columns) → Option Columns
columns_by Csv named = named
columns_by JsonLines named = Some all_columns_in_place

-- whether a header names a column
abbrev pub names_column : Columns → ℕ → Bool
names_column columns column = nat_lt column columns.count

-- whether it names those of a stamp
abbrev pub names_stamp : StampForm → Columns → Bool
names_stamp Pair columns = names_column columns columns.l && names_column columns columns.c
names_stamp Dotted columns = names_column columns columns.stamp
names_stamp (Packed p) columns = names_column columns columns.stamp

-- whether it names all that each event needs
abbrev pub is_complete : StampForm → Columns → Bool
is_complete form columns = names_column columns columns.node && names_stamp form columns

-- the fields of a stamp
abbrev pub stamp_part : StampForm → Columns → Fields → Fields
stamp_part Pair columns fields = field_of fields columns.l ∷ field_of fields columns.c ∷ []
stamp_part Dotted columns fields = field_of fields columns.stamp ∷ []
stamp_part (Packed p) columns fields = field_of fields columns.stamp ∷ []

-- the field of a message, of which a local event and a restart have none
abbrev pub message_part : LogWord → Columns → Fields → Fields
message_part word.Local columns fields = []
message_part word.Send columns fields = field_of fields columns.message ∷ []
message_part word.Receive columns fields = field_of fields columns.message ∷ []
message_part word.Restart columns fields = []

-- a label, if it isn't empty
abbrev pub label_part : List ℕ → Fields
label_part [] = []
label_part (byte ∷ bytes) = (byte ∷ bytes) ∷ []

-- the fields after the word, in the places that they have in a log without a header
abbrev pub arranged_rest : StampForm → Columns → LogWord → Fields → Fields
arranged_rest form columns w fields = field_of fields columns.node ∷ field_of fields columns.reading
    ∷ (stamp_part form columns fields ++ (message_part w columns fields ++ label_part (field_of fields columns.label)))

-- the fields of a record that begins with the word of an event, in those places; its word alone, which tells of nothing, if it doesn't have as
-- many fields as the header
abbrev pub arranged : StampForm → Columns → LogWord → Fields → Fields
arranged form columns w fields =
    field_of fields 0 ∷ (if length fields == columns.count then arranged_rest form columns w fields else [])

-- a record that begins with no such word stays as it is
abbrev pub arranged_after_word : StampForm → Columns → Option LogWord → Fields → Fields
arranged_after_word form columns None fields = fields
arranged_after_word form columns (Some w) fields = arranged form columns w fields

-- the fields of a record in the places that they have in a log without a header
abbrev pub arranged_in : StampForm → Columns → Fields → Fields
arranged_in form columns fields = arranged_after_word form columns (log_word_of (field_of fields 0)) fields

-- the fields of the stamp that a received message carried; the second is empty if a stamp is one field
abbrev pub carried_first : StampForm → Columns → Fields → List ℕ
carried_first Pair columns fields = field_of fields columns.carried_l
carried_first Dotted columns fields = field_of fields columns.carried
carried_first (Packed p) columns fields = field_of fields columns.carried

abbrev pub carried_second : StampForm → Columns → Fields → List ℕ
carried_second Pair columns fields = field_of fields columns.carried_c
carried_second Dotted columns fields = []
carried_second (Packed p) columns fields = []

-- what is told of a carried stamp is told well, or isn't, in this column. A stamp is to leave room for each c above it
abbrev pub if_small : LogColumn → Option Stamp → Result (Option Stamp) LogColumn
if_small column None = Err column
if_small column (Some stamp) = if nat_lt stamp.c MAX_FLOOR_C then Ok (Some stamp) else Err column

-- what two fields tell: nothing if they are empty, but a receive that names its sender has to tell it
abbrev pub carried_by_fields : StampForm → (is_needed : Bool) → (first second : List ℕ) → Result (Option Stamp) LogColumn
carried_by_fields form is_needed first second =
    if (length first == 0) && (length second == 0)
    then if is_needed then Err (bad_of_carried form first) else Ok None
    else if_small (bad_of_carried form first) (fields_stamp form first second)

-- the field of the column `from`, if there is such a column
abbrev pub from_in : Columns → Fields → Option (List ℕ)
from_in columns fields = if names_column columns columns.from then Some (field_of fields columns.from) else None

-- whether a receive names the node that sent its message, in place of this: its message is empty, and that name isn't
abbrev pub names_sender : (from : Option (List ℕ)) → (message : List ℕ) → Bool
names_sender None message = false
names_sender (Some from) message = (length message == 0) && not (length from == 0)

-- what a record of a word tells: nothing but if it is one of a receive
abbrev pub carried_for : StampForm → Columns → LogWord → Fields → Result (Option Stamp) LogColumn
carried_for form columns word.Local fields = Ok None
carried_for form columns word.Send fields = Ok None
carried_for form columns word.Receive fields =
    carried_by_fields form (names_sender (from_in columns fields) (field_of fields columns.message))
    (carried_first form columns fields) (carried_second form columns fields)
carried_for form columns word.Restart fields = Ok None

-- by what the event of a record stands among those of its node, if that is well written: by 0 if its field is empty
abbrev pub seq_in : Columns → Fields → Option ℕ
seq_in columns fields = if length (field_of fields columns.seq) == 0 then Some 0 else number_of (field_of fields columns.seq)

-- what a record tells of a carried stamp and of its seq, or the first column of these that is badly written
abbrev pub with_seq : Option Stamp → Option ℕ → Result Extras LogColumn
with_seq carried None = Err column.Seq
with_seq carried (Some seq) = Ok (record { carried = carried; seq = seq })

abbrev pub extras_with : Result (Option Stamp) LogColumn → Option ℕ → Result Extras LogColumn
extras_with (Err column) seq = Err column
extras_with (Ok carried) seq = with_seq carried seq

abbrev pub extras_for : StampForm → Columns → LogWord → Fields → Result Extras LogColumn
extras_for form columns w fields = extras_with (carried_for form columns w fields) (seq_in columns fields)

-- what a record tells that has no such columns
abbrev pub no_extras : Extras
no_extras = record { carried = None; seq = 0 }

abbrev pub extras_after_word : StampForm → Columns → Option LogWord → Fields → Result Extras LogColumn
extras_after_word form columns None fields = Ok no_extras
extras_after_word form columns (Some w) fields = extras_for form columns w fields

abbrev pub extras_in : StampForm → Columns → Fields → Result Extras LogColumn
extras_in form columns fields = extras_after_word form columns (log_word_of (field_of fields 0)) fields
