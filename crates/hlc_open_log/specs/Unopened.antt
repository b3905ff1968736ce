-- Input that can't be opened.
use Rattle.std.specs.Prelude.{◌≡◌, ◌≢◌, ◌⊎◌, ℕ, List, [], ◌∷◌, MatchResult, Option, Some, None, Result, codes, map, option_map, slice_get}
use Rattle.std.specs.List.{filter_map}
use Rattle.hlc_csv.specs.Rows.{Fields, text_of}
use Rattle.hlc_log.specs.Events.{event_at}
use Rattle.hlc_log.specs.Faults.{IsFaultOf}
use Rattle.hlc_log.specs.MessageFaults.{message_faults}
use Rattle.hlc_log.specs.declared.log_event.LogEvent.{LogEvent}
use Rattle.hlc_log.specs.declared.log_event.LogKind.{LogKind}
use Rattle.hlc_log.specs.declared.log_event.LogKind.TheVariants.{Local, Outside, Receive, Restart, Send}
use Rattle.hlc_log.specs.declared.order_fault.OrderFault.{OrderFault}
use Rattle.hlc_log.specs.declared.order_fault.OrderFault.TheVariants as order
use Rattle.hlc_log_text.specs.BadLog.{bad_log_column, bad_log_word}
use Rattle.hlc_log_text.specs.Files.{location_of, location_text}
use Rattle.hlc_log_text.specs.LogColumn.{column_name}
use Rattle.hlc_log_text.specs.ReadLog.{ExplainsEnd, IsReadUpToBad, IsReadWhole, IsReadWithBad}
use Rattle.hlc_log_text.specs.declared.bad_log.BadRecord.{BadRecord}
use Rattle.hlc_log_text.specs.declared.fault.LogTextFault.{LogTextFault}
use Rattle.hlc_log_text.specs.declared.fault.LogTextFault.TheVariants as text
use Rattle.hlc_log_text.specs.declared.fault_rule.FaultRule.{FaultRule}
use Rattle.hlc_log_text.specs.declared.fault_rule.FaultRule.TheVariants.{LeaveOut, TellEach}
use Rattle.hlc_log_text.specs.declared.file_mark.FileMark.{FileMark}
use Rattle.hlc_log_text.specs.declared.location.Location.{Location}
use Rattle.hlc_log_text.specs.declared.log_rules.LogRules.{LogRules}
use Rattle.hlc_log_text.specs.ReadText.{ReadText}
use Rattle.hlc_open_log.specs.Opened.{IsOpened, OpenedLog, opened_events}
use Rattle.hlc_open_log.specs.declared.bad_event.BadEvent.{BadEvent}
use Rattle.hlc_open_log.specs.declared.bad_event.Disorder.{Disorder}
use Rattle.hlc_open_log.specs.declared.bad_event.Disorder.TheVariants.{Cycle, SentTwice, Unsent}
use Rattle.hlc_open_log.specs.declared.bad_input.BadInput.{BadInput}
use Rattle.hlc_open_log.specs.declared.bad_input.BadInput.TheVariants.{Events, Records}
use Rattle.hlc_open_log.specs.declared.fault.OpenFault.{OpenFault}
use Rattle.hlc_open_log.specs.declared.fault.OpenFault.TheVariants as fault
use Rattle.hlc_csv.specs.declared.records_fault.RecordsFault.TheVariants as ended

-- the word of the row of an event for which a log has no causal order
abbrev pub disorder_word : Disorder → List ℕ
disorder_word (SentTwice message) = codes "sent-twice"
disorder_word (Unsent message) = codes "unsent"
disorder_word Cycle = codes "cycle"

-- the name of the message that the row names besides, if that has one
abbrev pub disorder_name : Disorder → Option (List ℕ)
disorder_name (SentTwice message) = message
disorder_name (Unsent message) = message
disorder_name Cycle = None

-- the field of a name, if there is one
abbrev pub name_part : Option (List ℕ) → Fields
name_part None = []
name_part (Some name) = name ∷ []

-- the row of a line that is bad: where it stands, the word that says why, and what it is about, if that has a name
abbrev pub bad_row : Location → (word : List ℕ) → (name : Option (List ℕ)) → Fields
bad_row location word name = codes "bad" ∷ location_text location ∷ word ∷ name_part name

-- that of a bad record, which names its column
abbrev pub bad_record_row : BadRecord → Fields
bad_record_row b = bad_row b.location (bad_log_word b.why) (option_map column_name (bad_log_column b.why))

-- and that of an event for which there is no causal order, which names its message
abbrev pub bad_event_row : BadEvent → Fields
bad_event_row b = bad_row b.location (disorder_word b.why) (disorder_name b.why)

-- the rows of bad records, and of events without an order, as text
abbrev pub records_text : List BadRecord → List ℕ
records_text records = text_of (map bad_record_row records)

abbrev pub events_text : List BadEvent → List ℕ
events_text events = text_of (map bad_event_row events)

-- what answers bad input
abbrev pub bad_text : BadInput → List ℕ
bad_text (Records records) = records_text records.items
bad_text (Events events) = events_text events.items

-- the name of the message of an event of a kind, if it has a message, and that one of these names
abbrev pub message_name : (names : List (List ℕ)) → LogKind → Option (List ℕ)
message_name names Local = None
message_name names (Send message) = slice_get names message.0
message_name names (Receive message) = slice_get names message.0
message_name names Restart = None
message_name names Outside = None

-- what a fault of a log tells of its event, whose message has this name; out of memory tells of none
abbrev pub disorder_of : (message : Option (List ℕ)) → OrderFault → Option Disorder
disorder_of message (order.SentTwice e) = Some (SentTwice message)
disorder_of message (order.Unsent e) = Some (Unsent message)
disorder_of message (order.Cycle e) = Some Cycle
disorder_of message order.Memory = None

-- the event that a fault of a log names
abbrev pub order_fault_place : OrderFault → ℕ
order_fault_place (order.SentTwice e) = e.0
order_fault_place (order.Unsent e) = e.0
order_fault_place (order.Cycle e) = e.0
order_fault_place order.Memory = 0

-- the event of a fault, as it is told of a log of some files whose messages have these names: where its record stands, and what is wrong with it
abbrev pub bad_event : List FileMark → (names : List (List ℕ)) → List LogEvent → OrderFault → Option BadEvent
bad_event files names events fault =
    let event = event_at events (order_fault_place fault) in
    option_map (λ why. record { location = location_of files event.line; why = why }) (disorder_of (message_name names event.kind) fault)

-- the faults that are told of a log in which this one is the first: if each is to be told, and it is of a message, all of messages; else it alone
abbrev pub told_faults : FaultRule → List LogEvent → OrderFault → List OrderFault
told_faults TellEach events (order.SentTwice e) = message_faults events
told_faults TellEach events (order.Unsent e) = message_faults events
told_faults _ events fault = fault ∷ []

-- a log isn't opened for a fault: events that wait are left out if bad records are
abbrev pub IsRefused : FaultRule → OrderFault → Type 0
IsRefused LeaveOut (order.Cycle e) = ⊥
IsRefused _ fault = Unit {0}

-- events, whose messages have these names, have no causal order, and these are told, of some files
pub record HasNoOrder (rule : FaultRule) (files : List FileMark) (names : List (List ℕ)) (events : List LogEvent) (told : List BadEvent) : Type 0 where
  pub fault : OrderFault
  pub is_fault : IsFaultOf events fault
  pub known : fault ≢ order.Memory
  pub refused : IsRefused rule fault
  pub told_are : told ≡ filter_map (bad_event files names events) (told_faults rule events fault)

-- what a fault tells of events that are put in a causal order
abbrev pub TellsDisorder : FaultRule → List FileMark → (names : List (List ℕ)) → List LogEvent → OpenFault → Type 0
TellsDisorder rule files names events (fault.Bad (Records records)) = ⊥
TellsDisorder rule files names events (fault.Bad (Events told)) = HasNoOrder rule files names events told.items
TellsDisorder rule files names events (fault.Records ended.Memory) = Unit {0}
TellsDisorder rule files names events (fault.Records _) = ⊥

-- a fault of reading, as one of opening
abbrev pub read_fault : LogTextFault → OpenFault
read_fault (text.Bad records) = fault.Bad (Records records)
read_fault (text.Records why) = fault.Records why

-- records of the bytes are bad, and these are told
abbrev pub AreRecordsBad : LogRules → (most : ℕ) → (bytes : Option (List ℕ)) → List BadRecord → Type 0
AreRecordsBad rules most bytes told = IsReadUpToBad rules most bytes told ⊎ IsReadWithBad rules most bytes told

-- the bytes are a log that has no causal order, and these of its events are told
abbrev pub IsOrderBad : LogRules → (most : ℕ) → (bytes : Option (List ℕ)) → List BadEvent → Type 0
IsOrderBad rules most bytes told =
    (text : ReadText) × IsReadWhole rules most bytes text
    × HasNoOrder rules.faults text.details.files text.message_names (opened_events rules text.messages text.log.events) told

-- the bytes can't be opened as a log for this reason
abbrev pub IsBadInput : LogRules → (most : ℕ) → (bytes : Option (List ℕ)) → BadInput → Type 0
IsBadInput rules most bytes (Records records) = AreRecordsBad rules most bytes records.items
IsBadInput rules most bytes (Events events) = IsOrderBad rules most bytes events.items

-- what a fault tells of the bytes
abbrev pub ExplainsOpenFault : LogRules → (most : ℕ) → (bytes : Option (List ℕ)) → OpenFault → Type 0
ExplainsOpenFault rules most bytes (fault.Bad bad) = IsBadInput rules most bytes bad
ExplainsOpenFault rules most bytes (fault.Records why) = ExplainsEnd rules most bytes why

-- the opening of the bytes as a log gave this: the log, or the fault that says why they are none
abbrev pub IsOpening : LogRules → (most : ℕ) → (bytes : Option (List ℕ)) → Result OpenedLog OpenFault → Type 0
IsOpening rules most bytes opening = MatchResult opening (IsOpened rules most bytes) (ExplainsOpenFault rules most bytes)
