-- What events need, and records of JSON lines may lack.
use Rattle.std.specs.Prelude.{◌==◌, ◌&&◌, Bool, ℕ, List, Option, Some, None, if◌then◌else◌, length}
use Rattle.std.specs.Option.{option_or}
use Rattle.hlc_csv.specs.Rows.{Fields, field_of}
use Rattle.hlc_log_text.specs.Columns.{all_columns_in_place}
use Rattle.hlc_log_text.specs.LogWord.{log_word_of}
use Rattle.hlc_log_text.specs.declared.columns.Columns.{Columns}
use Rattle.hlc_log_text.specs.declared.log_column.LogColumn.{LogColumn}
use Rattle.hlc_log_text.specs.declared.log_column.LogColumn.TheVariants as column
use Rattle.hlc_log_text.specs.declared.log_word.LogWord.{LogWord}
use Rattle.hlc_log_text.specs.declared.log_word.LogWord.TheVariants as word
use Rattle.hlc_log_text.specs.declared.record_syntax.RecordSyntax.{RecordSyntax}
use Rattle.hlc_log_text.specs.declared.record_syntax.RecordSyntax.TheVariants.{Csv, JsonLines}
use Rattle.hlc_log_text.specs.declared.stamp_form.StampForm.{StampForm}
use Rattle.hlc_log_text.specs.declared.stamp_form.StampForm.TheVariants.{Dotted, Packed, Pair}

-- a column, if its field is empty
abbrev pub if_empty : LogColumn → List ℕ → Option LogColumn
if_empty column field = if length field == 0 then Some column else None

-- whether a record leaves all fields of its stamp empty
abbrev pub leaves_stamp : StampForm → Columns → Fields → Bool
leaves_stamp Pair columns fields = (length (field_of fields columns.l) == 0) && (length (field_of fields columns.c) == 0)
leaves_stamp Dotted columns fields = length (field_of fields columns.stamp) == 0
leaves_stamp (Packed p) columns fields = length (field_of fields columns.stamp) == 0

-- the first column of its stamp that it leaves empty
abbrev pub missing_of_stamp : StampForm → Columns → Fields → Option LogColumn
missing_of_stamp Pair columns fields =
    option_or (if_empty column.L (field_of fields columns.l)) (if_empty column.C (field_of fields columns.c))
missing_of_stamp Dotted columns fields = if_empty column.Stamp (field_of fields columns.stamp)
missing_of_stamp (Packed p) columns fields = if_empty column.Stamp (field_of fields columns.stamp)

-- the first column of the stamp that its message carried that it leaves empty
abbrev pub missing_of_carried : StampForm → Columns → Fields → Option LogColumn
missing_of_carried Pair columns fields =
    option_or (if_empty column.CarriedL (field_of fields columns.carried_l)) (if_empty column.CarriedC (field_of fields columns.carried_c))
missing_of_carried Dotted columns fields = if_empty column.Carried (field_of fields columns.carried)
missing_of_carried (Packed p) columns fields = if_empty column.Carried (field_of fields columns.carried)

-- the column of its stamp that a record of a word lacks: a receive may leave all of it empty
abbrev pub missing_stamp : StampForm → Columns → LogWord → Fields → Option LogColumn
missing_stamp form columns word.Receive fields = if leaves_stamp form columns fields then None else missing_of_stamp form columns fields
missing_stamp form columns w fields = missing_of_stamp form columns fields

-- the column that it lacks to tell its message: a receive names that, or the node that sent it and then the stamp that it carried
abbrev pub missing_message : StampForm → Columns → LogWord → Fields → Option LogColumn
missing_message form columns word.Receive fields =
    if length (field_of fields columns.message) == 0
    then if length (field_of fields columns.from) == 0 then Some column.Message else missing_of_carried form columns fields
    else None
missing_message form columns w fields = None

-- the first column that an event of a word needs and its record lacks
abbrev pub missing_column : StampForm → Columns → LogWord → Fields → Option LogColumn
missing_column form columns w fields =
    option_or (if_empty column.Node (field_of fields columns.node)) (option_or (missing_stamp form columns w fields) (missing_message form columns w fields))

-- the same of a record that may begin with another word, which needs nothing
abbrev pub missing_after_word : StampForm → Option LogWord → Fields → Option LogColumn
missing_after_word form None fields = None
missing_after_word form (Some w) fields = missing_column form all_columns_in_place w fields

-- the column that a record of a log lacks; this is told of JSON lines alone
abbrev pub missing_by : RecordSyntax → StampForm → Fields → Option LogColumn
missing_by Csv form fields = None
missing_by JsonLines form fields = missing_after_word form (log_word_of (field_of fields 0)) fields
