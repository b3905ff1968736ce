-- A log while it is read.
use Rattle.std.specs.Prelude.{◌≡◌, ◌≢◌, ℕ, Bool, true, false, IsTrue, slice_index_or, ◌+◌, ◌<◌, ◌≤◌, ◌⊎◌, All, List, [], ◌∷◌, ◌++◌, Option, Some, None, Result, Ok, Err, length, map, max, slice_get}
use Rattle.std.specs.List.{range_with_len}
use Rattle.hlc_stamp.specs.declared.id.NodeId.{NodeId}
use Rattle.hlc_stamp.specs.declared.limits.TheConstants.{MAX_CAPACITY}
use Rattle.hlc_log.specs.declared.log_event.TheConstants.{MAX_LOG_NODES}
use Rattle.hlc_log.specs.declared.log_event.LogKind.{LogKind}
use Rattle.hlc_log.specs.Events.{IsMessageBelow}
use Rattle.hlc_log.specs.Log.{StoredLog}
use Rattle.hlc_log.specs.Unsent.{is_sent}
use Rattle.hlc_log.specs.declared.log_event.LogEvent.{LogEvent}
use Rattle.hlc_csv.specs.Rows.{Fields}
use Rattle.hlc_csv.specs.declared.found_record.FoundRecord.{FoundRecord}
use Rattle.hlc_csv.specs.declared.found_record.TheConstants.{LAST_LINE}
use Rattle.hlc_log_text.specs.declared.log_rules.LogRules.{LogRules}
use Rattle.hlc_log_text.specs.declared.bad_log.BadLine.{BadLine}
use Rattle.hlc_log_text.specs.declared.bad_log.BadLog.{BadLog}
use Rattle.hlc_log_text.specs.declared.bad_log.BadLog.TheVariants as bad
use Rattle.hlc_log_text.specs.declared.fault.LogTextFault.{LogTextFault}
use Rattle.hlc_log_text.specs.declared.fault.LogTextFault.TheVariants as fault
use Rattle.hlc_csv.specs.declared.records_fault.RecordsFault.TheVariants as ended
use Rattle.hlc_log_text.specs.declared.fault_rule.FaultRule.{FaultRule}
use Rattle.hlc_log_text.specs.declared.fault_rule.FaultRule.TheVariants.{TellEach}
use Rattle.hlc_log_text.specs.declared.log_word.LogWord.{LogWord}
use Rattle.hlc_log_text.specs.declared.partial_log.PartialLog.{PartialLog}
use Rattle.hlc_log_text.specs.declared.sent_marks.SentMarks.{SentMarks}
use Rattle.hlc_log_text.specs.LogItem.{Asks, Begins, Fails, LogItem, Skips, Tells, bad_lines_in, event_lines, events_in, item_after, marks_in}
use Rattle.hlc_log_text.specs.BadRecords.{bad_records_on}
use Rattle.hlc_log_text.specs.FaultRule.{leaves_out, leaves_sent}
use Rattle.hlc_log_text.specs.Labels.{label_at}
use Rattle.hlc_log_text.specs.LogDetails.{ToldDetails}
use Rattle.hlc_log_text.specs.LogHeader.{IsHeaderAfter}
use Rattle.hlc_log_text.specs.LogText.{IsRawTextOf, apart_count, apart_if, kind_message, kind_word, message_names, node_names, node_of, record_count, sender_of_event, unnamed_in}
use Rattle.hlc_log_text.specs.ReadText.{ReadText}
use Rattle.hlc_log_text.specs.Names.{with_name}
use Rattle.hlc_log_text.specs.NamedEvent.{NamedEvent, if_message}
use Rattle.hlc_log_text.specs.Question.{Asked}
use Rattle.hlc_log_text.specs.Skipped.{skipped_in}

-- the number of a node's name among the names, which it may have joined; none if it would be one too many, and then it hasn't joined them
abbrev pub NumbersNode : (old new : List (List ℕ)) (name : List ℕ) → Option NodeId → Type 0
NumbersNode old new name None = (MAX_LOG_NODES < length (with_name old name)) × (new ≡ old)
NumbersNode old new name (Some node) = (new ≡ with_name old name) × (slice_get new node.0 ≡ Some name) × (length new ≤ MAX_LOG_NODES)

-- names after a message is mentioned, if a word has one
abbrev pub with_message : List (List ℕ) → Option (List ℕ) → List (List ℕ)
with_message names None = names
with_message names (Some name) = with_name names name

-- what an event is by its word, with the number of its message's name, which may have joined the names
pub record TellsKind (old new : List (List ℕ)) (w : LogWord) (name : List ℕ) (kind : LogKind) : Type 0 where
  pub names : new ≡ with_message old (if_message w name)
  pub is_word : kind_word kind ≡ w
  pub message : kind_message new kind ≡ if_message w name
  pub below : IsMessageBelow (length new) kind

-- the last of some lines, or the one before them
abbrev pub last_of : (before : ℕ) → List ℕ → ℕ
last_of before [] = before
last_of before (line ∷ lines) = last_of line lines

-- what was read beside the events, with these names of nodes
abbrev pub details_with : (nodes : List (List ℕ)) → PartialLog → ToldDetails
details_with nodes partial = record {
  files = partial.files;
  nodes = nodes;
  labels = partial.labels;
  questions = partial.questions.items;
  skipped = partial.skipped;
  left_out = partial.left_out.items;
}

-- what was read so far, as a text of its own
abbrev pub text_of : PartialLog → ReadText
text_of partial = record {
  log = partial.log;
  message_names = partial.messages;
  messages = length partial.messages;
  details = details_with partial.nodes partial;
}

-- the nodes that so many events name as senders, by their places
abbrev pub nodes_named : (nodes : List (List ℕ)) → (senders : List (ℕ × List ℕ)) → (count : ℕ) → List (Option NodeId)
nodes_named nodes senders count = map (λ place. node_of nodes (label_at senders place)) (range_with_len 0 count)

-- what was read, with the messages without a name told apart, if there are such
abbrev pub apart_log : PartialLog → StoredLog
apart_log partial =
    let senders = nodes_named partial.nodes partial.senders (length partial.log.events) in
    record { events = apart_if (unnamed_in partial.messages) (length partial.messages) senders partial.log.events }

abbrev pub apart_text : PartialLog → ReadText
apart_text partial = record {
  log = apart_log partial;
  message_names = partial.messages;
  messages = apart_count (unnamed_in partial.messages) (length partial.messages) (length partial.log.events);
  details = details_with partial.nodes partial;
}

-- what was read, with these names of nodes
abbrev pub text_with : (nodes : List (List ℕ)) → PartialLog → ReadText
text_with nodes partial = record {
  log = partial.log;
  message_names = partial.messages;
  messages = apart_count (unnamed_in partial.messages) (length partial.messages) (length partial.log.events);
  details = details_with nodes partial;
}

-- what was read names few nodes, and mentions no more messages than it has events
pub record HasFewNames (partial : PartialLog) : Type 0 where
  pub few_nodes : length partial.nodes ≤ MAX_LOG_NODES
  pub few_messages : length partial.messages ≤ length partial.log.events

-- with these names of nodes, what was read is the text with its messages told apart
pub record IsFinished (old new : PartialLog) (nodes : List (List ℕ)) : Type 0 where
  pub text : text_with nodes new ≡ apart_text old
  pub few : HasFewNames new

-- whether a message of a number is marked as sent
abbrev pub mark_at : SentMarks → (m : ℕ) → Bool
mark_at sent m = slice_index_or sent.marks.items m false

-- if it is kept which messages were sent, those are marked that these events send
abbrev pub AreMarked : SentMarks → List LogEvent → Type 0
AreMarked sent events = IsTrue sent.is_kept → (m : ℕ) → mark_at sent m ≡ is_sent events m

-- that is kept if the rules ask for it
abbrev pub KeepsMarksBy : LogRules → PartialLog → Type 0
KeepsMarksBy rules partial = partial.sent.is_kept ≡ leaves_sent rules.faults rules.resent

-- it is kept after as before
abbrev pub KeepMarks : (old new : PartialLog) → Type 0
KeepMarks old new = new.sent.is_kept ≡ old.sent.is_kept

-- records that say this were read so far, which begin on these lines
pub record IsPartialLog (items : List LogItem) (lines : List ℕ) (partial : PartialLog) : Type 0 where
  pub held : IsRawTextOf items (text_of partial)
  pub messages : partial.messages ≡ message_names (events_in items)
  pub on_lines : map (λ e. e.line) partial.log.events ≡ event_lines items lines
  pub one_each : length lines ≡ length items
  pub ends : partial.line ≡ last_of 0 lines
  pub before : All (λ e. e.line ≤ partial.line) partial.log.events
  pub low : length items ≤ partial.line
  pub header : IsHeaderAfter items partial.header
  pub last : partial.line ≤ LAST_LINE + length items
  pub senders : (place : ℕ) → label_at partial.senders place ≡ sender_of_event (events_in items) place
  pub skipped : partial.skipped ≡ skipped_in items lines
  pub left_out : partial.left_out.items ≡ bad_lines_in items lines
  pub sent : AreMarked partial.sent partial.log.events
  pub files : partial.files ≡ marks_in items lines
  pub marks : All (λ mark. mark.line ≤ partial.line) partial.files

-- one more record finds numbers for its names and its line, which comes after all file marks
pub record HasPlace (partial : PartialLog) : Type 0 where
  pub few_records : record_count (text_of partial) < MAX_CAPACITY
  pub few_nodes : length partial.nodes ≤ MAX_LOG_NODES
  pub few_messages : length partial.messages ≤ length partial.log.events
  pub last : partial.line < LAST_LINE + MAX_CAPACITY
  pub marks : All (λ mark. mark.line ≤ partial.line) partial.files

-- a line comes after that of the last record, and leaves lines for more
pub record IsNextLine (partial : PartialLog) (line : ℕ) : Type 0 where
  pub rises : partial.line < line
  pub last : line ≤ max LAST_LINE (partial.line + 1)

-- events name more nodes, with one event more, than there may be
abbrev pub NameTooMany : List NamedEvent → NamedEvent → Type 0
NameTooMany events event = MAX_LOG_NODES < length (node_names (events ++ event ∷ []))

-- an event is added; or it names one node too many, and what was read stays
abbrev pub Adds : List LogItem → List ℕ → NamedEvent → (line : ℕ) → PartialLog → Bool → Type 0
Adds items lines event line new true = IsPartialLog (items ++ Tells event ∷ []) (lines ++ line ∷ []) new
Adds items lines event line new false = NameTooMany (events_in items) event × IsPartialLog items lines new

-- so it is, whatever was read before
abbrev pub AddsNext : (old : PartialLog) → NamedEvent → (line : ℕ) → (new : PartialLog) → Bool → Type 0
AddsNext old event line new added = (items : List LogItem) (lines : List ℕ) → IsPartialLog items lines old → Adds items lines event line new added

-- a question is added, whatever was read before
abbrev pub AsksNext : (old : PartialLog) → Asked → (line : ℕ) → (new : PartialLog) → Type 0
AsksNext old asked line new =
    (items : List LogItem) (lines : List ℕ) → IsPartialLog items lines old → IsPartialLog (items ++ Asks asked ∷ []) (lines ++ line ∷ []) new

-- a record is counted that was left out, whatever was read before
abbrev pub SkipsNext : (old : PartialLog) → (line : ℕ) → (new : PartialLog) → Type 0
SkipsNext old line new =
    (items : List LogItem) (lines : List ℕ) → IsPartialLog items lines old → IsPartialLog (items ++ Skips ∷ []) (lines ++ line ∷ []) new

-- a file of a name is begun, whatever was read before
abbrev pub BeginsNext : (old : PartialLog) → (name : List ℕ) → (line : ℕ) → (new : PartialLog) → Type 0
BeginsNext old name line new =
    (items : List LogItem) (lines : List ℕ) → IsPartialLog items lines old → IsPartialLog (items ++ Begins name ∷ []) (lines ++ line ∷ []) new

-- after these the next record, which is to say this, is bad for this reason: it says nothing, or its event names one node too many
abbrev pub IsBadSaid : List LogItem → Result LogItem BadLog → BadLog → Type 0
IsBadSaid items said why =
    (said ≡ Err why) ⊎ ((event : NamedEvent) × (said ≡ Ok (Tells event)) × NameTooMany (events_in items) event × (why ≡ bad.Node))

abbrev pub IsBadAfter : LogRules → List LogItem → Fields → BadLog → Type 0
IsBadAfter rules items next why = IsBadSaid items (item_after rules items next) why

-- the next record, which is to say this, is taken in; or it is bad for this reason, and what was read stays
abbrev pub TakesOr : List LogItem → List ℕ → Result LogItem BadLog → (line : ℕ) → PartialLog → Option BadLog → Type 0
TakesOr items lines said line new None = (item : LogItem) × (said ≡ Ok item) × IsPartialLog (items ++ item ∷ []) (lines ++ line ∷ []) new
TakesOr items lines said line new (Some why) = IsBadSaid items said why × IsPartialLog items lines new

-- so it is, whatever was read before and said something of the next record
abbrev pub TakesSaid : (says : List LogItem → Result LogItem BadLog) → (old : PartialLog) → (line : ℕ) → (new : PartialLog) → Option BadLog → Type 0
TakesSaid says old line new found =
    (items : List LogItem) (lines : List ℕ) → IsPartialLog items lines old → TakesOr items lines (says items) line new found

-- a record is bad after others for this reason, with which the rules leave records out
abbrev pub IsLeftOut : LogRules → List LogItem → Fields → BadLog → Type 0
IsLeftOut rules items next why = IsBadAfter rules items next why × (leaves_out rules.faults why ≡ true)

-- what a record is read as after others: what it says; or, if it is bad and left out, that
abbrev pub SaysAfter : LogRules → List LogItem → Fields → LogItem → Type 0
SaysAfter rules items next item = (item_after rules items next ≡ Ok item) ⊎ ((why : BadLog) × IsLeftOut rules items next why × (item ≡ Fails why))

-- a bad record was left out, whatever was read before, if its line comes after that; or the rule doesn't leave it out, and what was read stays
abbrev pub Leaves : List LogItem → List ℕ → FaultRule → BadLine → PartialLog → Option BadLine → Type 0
Leaves items lines rule b new None = (leaves_out rule b.why ≡ true) × IsPartialLog (items ++ Fails b.why ∷ []) (lines ++ b.line ∷ []) new
Leaves items lines rule b new (Some kept) = (leaves_out rule b.why ≡ false) × (kept ≡ b) × IsPartialLog items lines new

abbrev pub LeavesNext : FaultRule → (old : PartialLog) → BadLine → (new : PartialLog) → Option BadLine → Type 0
LeavesNext rule old b new kept =
    (items : List LogItem) (lines : List ℕ) → IsPartialLog items lines old → IsNextLine old b.line → Leaves items lines rule b new kept

-- the line that is told of the next record, which is counted to begin on a line
abbrev pub told_line : PartialLog → (counted : ℕ) → ℕ
told_line partial counted = max counted (partial.line + 1)

-- what a fault tells of a log that was read to its end: each of its bad records is to be told, and there are some
abbrev pub TellsLeftOut : FaultRule → PartialLog → LogTextFault → Type 0
TellsLeftOut rule partial (fault.Bad told) =
    (rule ≡ TellEach) × (told.items ≢ []) × (told.items ≡ bad_records_on partial.files partial.left_out.items)
TellsLeftOut rule partial (fault.Records ended.Memory) = Unit {0}
TellsLeftOut rule partial (fault.Records _) = ⊥

-- the next record ends the reading for this reason: nothing closes its last field; or it is bad otherwise, and the rules don't leave it out
abbrev pub IsBadFound : LogRules → List LogItem → Fields → (is_open : Bool) → BadLog → Type 0
IsBadFound rules items next true why = why ≡ bad.Quote
IsBadFound rules items next false why = IsBadAfter rules items next why × (leaves_out rules.faults why ≡ false)

-- the next record is taken in; or it ends the reading, and begins on a line with at least as many before it as there are records, and what was
-- read stays
abbrev pub Takes : LogRules → List LogItem → List ℕ → Fields → (is_open : Bool) → (line : ℕ) → PartialLog → Option BadLine → Type 0
Takes rules items lines next is_open line new None =
    (is_open ≡ false) × (item : LogItem) × SaysAfter rules items next item × IsPartialLog (items ++ item ∷ []) (lines ++ line ∷ []) new
Takes rules items lines next is_open line new (Some b) =
    IsBadFound rules items next is_open b.why × (b.line ≡ line) × (length items < b.line) × IsPartialLog items lines new

abbrev pub TakesNext : LogRules → (old : PartialLog) → Fields → FoundRecord → (new : PartialLog) → Option BadLine → Type 0
TakesNext rules old next found new taken =
    (items : List LogItem) (lines : List ℕ) → IsPartialLog items lines old
    → Takes rules items lines next found.is_open (told_line old found.line) new taken
