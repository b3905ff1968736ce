-- What the records of a log say.
use Rattle.std.specs.Prelude.{◌==◌, ◌&&◌, ℕ, ◌+◌, ◌-◌, Bool, false, List, bytes_eq, length, max, min, not, Option, Some, None, Result, Ok, Err, if◌then◌else◌, is_some, nat_le, option_map, slice_get, true, unwrap_or}
use Rattle.std.specs.List.{list_any}
use Rattle.std.specs.Option.{option_and_then}
use Rattle.hlc_causality.specs.declared.event_rule.TheConstants.{MAX_FLOOR_C}
use Rattle.hlc_stamp.specs.declared.limits.TheConstants.{MAX_READING}
use Rattle.hlc_stamp.specs.declared.stamp.Stamp.{Stamp}
use Rattle.hlc_stamp.specs.Order.{Pair, zero_pair}
use Rattle.hlc_csv.specs.Number.{number_of}
use Rattle.hlc_csv.specs.Rows.{Fields, field_of}
use Rattle.hlc_log_line.specs.declared.log_event.TheConstants.{MAX_NAME_LEN}
use Rattle.hlc_log_text.specs.BadColumn.{bad_of_stamp}
use Rattle.hlc_log_text.specs.Columns.{names_sender}
use Rattle.hlc_log_text.specs.StampForms.{form_stamp, is_empty_stamp, stamp_field_count}
use Rattle.hlc_log_text.specs.Units.{in_unit_of_l}
use Rattle.hlc_log_text.specs.declared.extras.Extras.{Extras}
use Rattle.hlc_log_text.specs.declared.log_rules.LogRules.{LogRules}
use Rattle.hlc_log_text.specs.declared.stamp_form.StampForm.{StampForm}
use Rattle.hlc_log_text.specs.declared.bad_log.BadLog.{BadLog}
use Rattle.hlc_log_text.specs.declared.bad_log.BadLog.TheVariants as bad
use Rattle.hlc_log_text.specs.declared.log_column.LogColumn.{LogColumn}
use Rattle.hlc_log_text.specs.declared.log_column.LogColumn.TheVariants as column
use Rattle.hlc_log_text.specs.declared.log_word.LogWord.{LogWord}
use Rattle.hlc_log_text.specs.declared.log_word.LogWord.TheVariants as word
use Rattle.hlc_log_text.specs.declared.record_head.RecordHead.{RecordHead}
use Rattle.hlc_log_text.specs.LogWord.{has_fields_of, log_field_count}

-- a number as a reading, which is n in the unit of l: the number has to be positive, and n such as a clock may read
abbrev pub if_reading : (number n : ℕ) → Option ℕ
if_reading number n = if nat_le 1 number && nat_le n MAX_READING then Some n else None

-- the reading that a field writes, in the unit of l
abbrev pub reading_of : LogRules → List ℕ → Option ℕ
reading_of rules field = option_and_then (λ number. if_reading number (in_unit_of_l rules.form rules.units number)) (number_of field)

-- what a clock is taken to have read at an event with a stamp if its record doesn't tell: l of the stamp, as far as a clock may read that
abbrev pub assumed_reading : Pair → ℕ
assumed_reading stamp = max 1 (min stamp.l MAX_READING)

-- what a clock is taken to have read that is known to within a tolerance: where l is behind it, l, or as much less as may be
abbrev pub tolerated : (tolerance reading l : ℕ) → ℕ
tolerated tolerance reading l = max 1 (min reading (max l (reading - tolerance)))

-- the reading of an event with a stamp, by its field
abbrev pub reading_with : LogRules → List ℕ → Pair → Option ℕ
reading_with rules field stamp =
    if length field == 0 then Some (assumed_reading stamp) else option_map (λ reading. tolerated rules.tolerance reading stamp.l) (reading_of rules field)

-- whether a field may be a name: 1 to 256 bytes
abbrev pub is_name : List ℕ → Bool
is_name field = nat_le 1 (length field) && nat_le (length field) MAX_NAME_LEN

-- where the name of the message stands, if there is one: after the stamp
abbrev pub message_place : StampForm → ℕ
message_place form = 3 + stamp_field_count form

-- whether a field may be the name of a sent message, given the field of the column `from`, if there is such a column: then it may be empty
abbrev pub is_sent_name : (from : Option (List ℕ)) → List ℕ → Bool
is_sent_name None name = is_name name
is_sent_name (Some from) name = nat_le (length name) MAX_NAME_LEN

-- whether it may be that of a received one: then it may be empty if the column names the sending node
abbrev pub is_received_name : (from : Option (List ℕ)) → List ℕ → Bool
is_received_name None name = is_name name
is_received_name (Some from) name = if length name == 0 then is_name from else is_name name

-- whether the names of a record of a word may be such
abbrev pub has_good_names : StampForm → LogWord → (from : Option (List ℕ)) → Fields → Bool
has_good_names form word.Local from fields = is_name (field_of fields 1)
has_good_names form word.Send from fields = is_name (field_of fields 1) && is_sent_name from (field_of fields (message_place form))
has_good_names form word.Receive from fields = is_name (field_of fields 1) && is_received_name from (field_of fields (message_place form))
has_good_names form word.Restart from fields = is_name (field_of fields 1)

-- what the fields of a stamp tell in a record of a word, if they are well written: at a receive they may be empty, and then they tell none
abbrev pub stamp_told : StampForm → LogWord → Fields → Option (Option Stamp)
stamp_told form word.Receive fields = if is_empty_stamp form fields 3 then Some None else option_map (λ stamp. Some stamp) (form_stamp form fields 3)
stamp_told form w fields = option_map (λ stamp. Some stamp) (form_stamp form fields 3)

-- the stamp that is told, or (0, 0) if none is
abbrev pub stamp_or_zero : Option Stamp → Stamp
stamp_or_zero told = unwrap_or told zero_pair

-- what a record of a restart says but for its names, with its stamp, if there is room above that: it tells no reading
abbrev pub restart_head : Stamp → Option RecordHead
restart_head stamp =
    if nat_le stamp.c MAX_FLOOR_C
    then Some (record { word = word.Restart; reading = assumed_reading stamp; has_reading = false; stamp = stamp; has_stamp = true })
    else None

-- what a record of a word says but for its names, with its reading, whether it tells that, and the stamp that it tells
abbrev pub head_by : LogWord → (reading : ℕ) → (has_reading : Bool) → Option Stamp → Option RecordHead
head_by word.Restart reading has_reading told = restart_head (stamp_or_zero told)
head_by w reading has_reading told =
    Some (record { word = w; reading = reading; has_reading = has_reading; stamp = stamp_or_zero told; has_stamp = is_some told })

-- what a record says but for its names, given what its reading's field says, and what those of its stamp tell, if they are well written
abbrev pub head_from : LogRules → LogWord → List ℕ → Option (Option Stamp) → Option RecordHead
head_from rules w field None = None
head_from rules w field (Some told) =
    option_and_then (λ reading. head_by w reading (not (length field == 0)) told) (reading_with rules field (stamp_or_zero told))

abbrev pub head_with : LogRules → LogWord → Fields → Option RecordHead
head_with rules w fields = head_from rules w (field_of fields 2) (stamp_told rules.form w fields)

-- whether a reading is there and badly written
abbrev pub is_bad_reading : LogRules → List ℕ → Bool
is_bad_reading rules field = not (length field == 0) && not (is_some (reading_of rules field))

-- the column of a record whose numbers aren't there: that of its reading, if this is so of it, and else that of its stamp
abbrev pub number_column : LogRules → Fields → LogColumn
number_column rules fields =
    if is_bad_reading rules (field_of fields 2) then column.Reading else bad_of_stamp rules.form (field_of fields 3)

-- the column of a record whose names aren't good: that of its node, if this is no name, and else the one that names its message
abbrev pub name_column : StampForm → (from : Option (List ℕ)) → Fields → LogColumn
name_column form from fields =
    if not (is_name (field_of fields 1)) then column.Node
    else if names_sender from (field_of fields (message_place form)) then column.From
    else column.Message

-- the numbers of a record are there: then its names are good
abbrev pub head_or_bad : LogRules → (from : Option (List ℕ)) → Fields → Option RecordHead → (good : Bool) → Result RecordHead BadLog
head_or_bad rules from fields None good = Err (bad.Number (number_column rules fields))
head_or_bad rules from fields (Some head) good = if good then Ok head else Err (bad.Name (name_column rules.form from fields))

-- what a record of a word says but for its names, or the first reason for which it says nothing: the number of fields has to be right, then the
-- numbers are there, and then the names are good
abbrev pub head_of : LogRules → LogWord → (from : Option (List ℕ)) → Fields → Result RecordHead BadLog
head_of rules w from fields =
    if has_fields_of rules.form w (length fields)
    then head_or_bad rules from fields (head_with rules w fields) (has_good_names rules.form w from fields)
    else Err bad.Fields

-- the first reason of a record that is bad for this one, and because its carried stamp or its seq is badly written, in a column: these are numbers, and
-- the last
abbrev pub before_extras : BadLog → (extra : LogColumn) → BadLog
before_extras bad.Fields column = bad.Fields
before_extras (bad.Number first) column = bad.Number first
before_extras why column = bad.Number column

-- the same with the stamp that the record tells as carried and its seq, or the column of these that is badly written
abbrev pub head_with_extras : Result RecordHead BadLog → Result Extras LogColumn → Result (RecordHead × Extras) BadLog
head_with_extras (Ok head) (Ok extras) = Ok (head, extras)
head_with_extras (Err why) (Ok extras) = Err why
head_with_extras (Ok head) (Err column) = Err (bad.Number column)
head_with_extras (Err why) (Err column) = Err (before_extras why column)

abbrev pub whole_head_of : LogRules → LogWord → (from : Option (List ℕ)) → Fields → Result Extras LogColumn → Result (RecordHead × Extras) BadLog
whole_head_of rules w from fields extras = head_with_extras (head_of rules w from fields) extras

-- the label of a record of a word, if it has one: the one field more than the word has
abbrev pub label_of : StampForm → LogWord → Fields → Option (List ℕ)
label_of form w fields = slice_get fields (log_field_count form w)

-- an event as a record of a log tells of it, with the names of its node and of its message, which is empty if the message has none, the name of
-- the node that a receive tells in place of that, the stamp that a received message carried, its seq, and its label, if it has them
pub record NamedEvent : Type 0 where
  pub head : RecordHead
  pub node : List ℕ
  pub message : Option (List ℕ)
  pub from : Option (List ℕ)
  pub carried : Option Pair
  pub seq : ℕ
  pub label : Option (List ℕ)

-- it without what is kept aside: the name of the sending node, and its label
abbrev pub without_asides : NamedEvent → NamedEvent
without_asides e = record { head = e.head; node = e.node; message = e.message; from = None; carried = e.carried; seq = e.seq; label = None }

-- it with what its message carried, and its seq
abbrev pub with_extras : Extras → NamedEvent → NamedEvent
with_extras extras e = record e { carried = extras.carried; seq = extras.seq }

-- the message's name, if a record of the word has one
abbrev pub if_message : LogWord → List ℕ → Option (List ℕ)
if_message word.Local name = None
if_message word.Send name = Some name
if_message word.Receive name = Some name
if_message word.Restart name = None

-- the name of the node that sent the message, if a record of the word names it in place of that
abbrev pub if_named : (is_named : Bool) → Option (List ℕ) → Option (List ℕ)
if_named true from = from
if_named false from = None

abbrev pub if_sender : LogWord → (from : Option (List ℕ)) → (message : List ℕ) → Option (List ℕ)
if_sender word.Local from message = None
if_sender word.Send from message = None
if_sender word.Receive from message = if_named (names_sender from message) from
if_sender word.Restart from message = None

-- the event of a record with these names, the field of the column `from`, if there is such a column, and this label, which tells of nothing
-- carried and of no seq; a local one has no message, nor has a restart
abbrev pub told_by : RecordHead → (node message : List ℕ) → (from : Option (List ℕ)) → Option (List ℕ) → NamedEvent
told_by head node message from label = record {
  head = head;
  node = node;
  message = if_message head.word message;
  from = if_sender head.word from message;
  carried = None;
  seq = 0;
  label = label;
}

abbrev pub named_event_from : StampForm → LogWord → (from : Option (List ℕ)) → Fields → Result RecordHead BadLog → Result NamedEvent BadLog
named_event_from form w from fields (Ok head) =
    Ok (told_by head (field_of fields 1) (field_of fields (message_place form)) from (label_of form w fields))
named_event_from form w from fields (Err why) = Err why

-- the event of a record of a word, or the first reason for which it has none
abbrev pub named_event_of : LogRules → LogWord → (from : Option (List ℕ)) → Fields → Result NamedEvent BadLog
named_event_of rules w from fields = named_event_from rules.form w from fields (head_of rules w from fields)

-- whether an event with a word and the name of its message sends the message of a name
abbrev pub sends_name : (name : List ℕ) → LogWord → (message : Option (List ℕ)) → Bool
sends_name name word.Send (Some message) = bytes_eq name message
sends_name name _ _ = false

-- whether one of some events does
abbrev pub is_sent_by : List NamedEvent → (name : List ℕ) → Bool
is_sent_by events name = list_any (λ event. sends_name name event.head.word event.message) events

-- whether an event with a word and the name of its message sends a message that one of some events sends. A message without a name is another each time
abbrev pub sends_again_by : List NamedEvent → LogWord → (message : Option (List ℕ)) → Bool
sends_again_by events word.Send (Some name) = not (length name == 0) && is_sent_by events name
sends_again_by events _ _ = false

abbrev pub sends_again : List NamedEvent → NamedEvent → Bool
sends_again events event = sends_again_by events event.head.word event.message
