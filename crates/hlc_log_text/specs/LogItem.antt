-- What the records of a log say.
use Rattle.std.specs.Prelude.{◌==◌, ◌&&◌, ℕ, Bool, false, true, List, [], ◌∷◌, Option, Some, None, Result, Ok, Err, bytes_eq, codes, if◌then◌else◌, fold, is_some, length, option_map}
use Rattle.std.specs.List.{cons_option, filter_map}
use Rattle.hlc_csv.specs.Rows.{Fields, field_of}
use Rattle.hlc_log_text.specs.declared.log_rules.LogRules.{LogRules}
use Rattle.hlc_log_text.specs.declared.stamp_form.StampForm.{StampForm}
use Rattle.hlc_log_text.specs.declared.bad_log.BadLine.{BadLine}
use Rattle.hlc_log_text.specs.declared.bad_log.BadLog.{BadLog}
use Rattle.hlc_log_text.specs.declared.bad_log.BadLog.TheVariants as bad
use Rattle.hlc_log_text.specs.declared.columns.Columns.{Columns}
use Rattle.hlc_log_text.specs.declared.extras.Extras.{Extras}
use Rattle.hlc_log_text.specs.declared.log_column.LogColumn.{LogColumn}
use Rattle.hlc_log_text.specs.declared.log_word.LogWord.{LogWord}
use Rattle.hlc_log_text.specs.declared.record_syntax.RecordSyntax.{RecordSyntax}
use Rattle.hlc_log_text.specs.declared.record_syntax.RecordSyntax.TheVariants.{Csv, JsonLines}
use Rattle.hlc_log_text.specs.declared.file_mark.FileMark.{FileMark}
use Rattle.hlc_log_text.specs.Columns.{arranged_in, begins_as_header, columns_by, columns_of, extras_in, from_in, is_complete}
use Rattle.hlc_log_text.specs.FileMarks.{begun_file, file_mark}
use Rattle.hlc_log_text.specs.LogWord.{log_word_of}
use Rattle.hlc_log_text.specs.Missing.{missing_by}
use Rattle.hlc_log_text.specs.FaultRule.{leaves_sent}
use Rattle.hlc_log_text.specs.NamedEvent.{NamedEvent, before_extras, named_event_of, sends_again, with_extras}
use Rattle.hlc_log_text.specs.Question.{Asked, asked_of}

-- a record tells of an event, asks a question, names the columns of a log or file, says that a record was left out, begins a file of a name, or is bad,
-- and is left out
pub data LogItem : Type 0 where
  Tells : NamedEvent → LogItem
  Asks : Asked → LogItem
  Names : Columns → LogItem
  Skips : LogItem
  Begins : (name : List ℕ) → LogItem
  Fails : BadLog → LogItem

abbrev pub tells : Result NamedEvent BadLog → Result LogItem BadLog
tells (Ok event) = Ok (Tells event)
tells (Err why) = Err why

abbrev pub asks : Result Asked BadLog → Result LogItem BadLog
asks (Ok asked) = Ok (Asks asked)
asks (Err why) = Err why

-- whether a record begins with the word of those that were left out
abbrev pub begins_as_skip : Fields → Bool
begins_as_skip fields = bytes_eq (field_of fields 0) (codes "skipped")

-- such a record has no more fields
abbrev pub skip_item : Fields → Result LogItem BadLog
skip_item fields = if length fields == 1 then Ok Skips else Err bad.Fields

-- what a record says that begins with no word of an event, and with the name of the file that it begins, if it begins one
abbrev pub item_by_file : Option (List ℕ) → Fields → Result LogItem BadLog
item_by_file None fields = if begins_as_skip fields then skip_item fields else asks (asked_of fields)
item_by_file (Some name) fields = Ok (Begins name)

abbrev pub other_item : Fields → Result LogItem BadLog
other_item fields = item_by_file (begun_file fields) fields

-- the first field is the word of an event: then the record is to tell of one; else it begins a file, was left out, or is to ask a question
abbrev pub item_after_word : LogRules → (from : Option (List ℕ)) → Option LogWord → Fields → Result LogItem BadLog
item_after_word rules from (Some w) fields = tells (named_event_of rules w from fields)
item_after_word rules from None fields = other_item fields

-- what a record says whose fields stand in their places, with the field of the column `from`, if there is such a column, or the first reason for
-- which it says nothing
abbrev pub item_from : LogRules → (from : Option (List ℕ)) → Fields → Result LogItem BadLog
item_from rules from fields = item_after_word rules from (log_word_of (field_of fields 0)) fields

-- the same of a log without a header
abbrev pub item_of : LogRules → Fields → Result LogItem BadLog
item_of rules fields = item_from rules None fields

-- a header names its columns, if it has those that each event needs
abbrev pub header_item : StampForm → Columns → Result LogItem BadLog
header_item form columns = if is_complete form columns then Ok (Names columns) else Err bad.Header

-- the columns that are named after an item, if these were before it: a header names its own, and a file begins with none
abbrev pub columns_then : Option Columns → LogItem → Option Columns
columns_then columns (Tells event) = columns
columns_then columns (Asks asked) = columns
columns_then columns (Names named) = Some named
columns_then columns Skips = columns
columns_then columns (Begins name) = None
columns_then columns (Fails why) = columns

-- those that the header of the log names, or that of the file which was begun last, if it has one
abbrev pub header_columns : List LogItem → Option Columns
header_columns items = fold columns_then None items

-- the name of the file that an item begins
abbrev pub if_file : LogItem → Option (List ℕ)
if_file (Tells event) = None
if_file (Asks asked) = None
if_file (Names columns) = None
if_file Skips = None
if_file (Begins name) = Some name
if_file (Fails why) = None

-- whether the next item is the first of the log or of a file
abbrev pub is_at_start : List LogItem → Bool
is_at_start items = fold (λ _ item. is_some (if_file item)) true items

-- the columns of a log after some items: those that are named, or all if it is of JSON lines
abbrev pub columns_after : LogRules → List LogItem → Option Columns
columns_after rules items = columns_by rules.syntax (header_columns items)

-- whether a record is a header, by the items of those before it: only the first of the log or of a file may be one, and none of JSON lines
abbrev pub is_header : RecordSyntax → List LogItem → Fields → Bool
is_header Csv items fields = is_at_start items && begins_as_header fields
is_header JsonLines items fields = false

-- why a record says nothing whose carried stamp or seq is badly written, in a column
abbrev pub refusal : LogColumn → Result LogItem BadLog → BadLog
refusal column (Ok item) = bad.Number column
refusal column (Err why) = before_extras why column

-- what a record says, with the stamp that it tells as carried and its seq, or the column of these that is badly written
abbrev pub extend : Result Extras LogColumn → Result LogItem BadLog → Result LogItem BadLog
extend (Err column) said = Err (refusal column said)
extend (Ok extras) (Ok (Tells event)) = Ok (Tells (with_extras extras event))
extend (Ok extras) said = said

-- what a record says that has its fields in these columns, or in their places if there are none
abbrev pub item_in : LogRules → Option Columns → Fields → Result LogItem BadLog
item_in rules None fields = item_of rules fields
item_in rules (Some columns) fields =
    extend (extras_in rules.form columns fields) (item_from rules (from_in columns fields) (arranged_in rules.form columns fields))

-- a record that lacks a column says nothing, whatever the others say
abbrev pub unless_missing : Option LogColumn → Result LogItem BadLog → Result LogItem BadLog
unless_missing None said = said
unless_missing (Some column) said = Err (bad.Missing column)

abbrev pub if_event : LogItem → Option NamedEvent
if_event (Tells event) = Some event
if_event (Asks asked) = None
if_event (Names columns) = None
if_event Skips = None
if_event (Begins name) = None
if_event (Fails why) = None

abbrev pub if_asked : LogItem → Option Asked
if_asked (Tells event) = None
if_asked (Asks asked) = Some asked
if_asked (Names columns) = None
if_asked Skips = None
if_asked (Begins name) = None
if_asked (Fails why) = None

-- what a record says, unless it tells of a send whose message one of these events sends, and such records are bad
abbrev pub unless_sent : (is_bad : Bool) → List NamedEvent → Result LogItem BadLog → Result LogItem BadLog
unless_sent true events (Ok (Tells event)) = if sends_again events event then Err bad.SentTwice else Ok (Tells event)
unless_sent _ events said = said

-- why a record was left out that is bad
abbrev pub if_reason : LogItem → Option BadLog
if_reason (Tells event) = None
if_reason (Asks asked) = None
if_reason (Names columns) = None
if_reason Skips = None
if_reason (Begins name) = None
if_reason (Fails why) = Some why

-- the events among what records say, what they ask, why some were left out, and the names of the files that they begin, in their order
abbrev pub events_in : List LogItem → List NamedEvent
events_in items = filter_map if_event items

abbrev pub questions_in : List LogItem → List Asked
questions_in items = filter_map if_asked items

abbrev pub reasons_in : List LogItem → List BadLog
reasons_in items = filter_map if_reason items

abbrev pub file_names_in : List LogItem → List (List ℕ)
file_names_in items = filter_map if_file items

-- what a record says, given what those before it say, or the first reason for which it says nothing
abbrev pub item_after : LogRules → List LogItem → Fields → Result LogItem BadLog
item_after rules items fields =
    if is_header rules.syntax items fields then header_item rules.form (columns_of fields)
    else unless_missing (missing_by rules.syntax rules.form fields)
    (unless_sent (leaves_sent rules.faults rules.resent) (events_in items) (item_in rules (columns_after rules items) fields))

-- of the lines of records, those of the records of which something is so
abbrev pub lines_where : (LogItem → Bool) → List LogItem → List ℕ → List ℕ
lines_where is_so [] lines = []
lines_where is_so (item ∷ items) [] = []
lines_where is_so (item ∷ items) (line ∷ lines) = if is_so item then line ∷ lines_where is_so items lines else lines_where is_so items lines

-- whether a record tells of an event
abbrev pub is_telling : LogItem → Bool
is_telling item = is_some (if_event item)

-- of the lines of records, those of the records that tell of events
abbrev pub event_lines : List LogItem → List ℕ → List ℕ
event_lines items lines = lines_where is_telling items lines

-- a reason with a line, if it is there
abbrev pub bad_line : (line : ℕ) → Option BadLog → Option BadLine
bad_line line why = option_map (λ why. record { line = line; why = why }) why

-- what is picked of items with the lines of their records
abbrev pub picked_in : {A : Type 0} → (ℕ → LogItem → Option A) → List LogItem → List ℕ → List A
picked_in pick [] lines = []
picked_in pick (item ∷ items) [] = []
picked_in pick (item ∷ items) (line ∷ lines) = cons_option (pick line item) (picked_in pick items lines)

-- the bad ones among records, with why they are bad and their lines
abbrev pub bad_lines_in : List LogItem → List ℕ → List BadLine
bad_lines_in items lines = picked_in (λ line item. bad_line line (if_reason item)) items lines

-- the marks of the files that records begin
abbrev pub marks_in : List LogItem → List ℕ → List FileMark
marks_in items lines = picked_in (λ line item. file_mark line (if_file item)) items lines
