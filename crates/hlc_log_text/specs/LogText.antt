-- The events that were read, and what their numbers stand for; and the questions.
use Rattle.std.specs.Prelude.{◌≡◌, ℕ, ◌+◌, ◌*◌, ◌<◌, ◌≤◌, All, List, [], Option, Some, None, bytes_eq, length, map, option_map, position, slice_get, slice_index_or}
use Rattle.std.specs.List.{filter_map}
use Rattle.std.specs.Option.{option_and_then}
use Rattle.hlc_log.specs.declared.log_event.TheConstants.{MAX_LOG_NODES}
use Rattle.hlc_stamp.specs.declared.id.NodeId.{NodeId}
use Rattle.hlc_log.specs.declared.log_event.LogEvent.{LogEvent}
use Rattle.hlc_log.specs.declared.log_event.LogKind.{LogKind}
use Rattle.hlc_log.specs.declared.log_event.LogKind.TheVariants as kind
use Rattle.hlc_log.specs.Events.{IsMessageBelow}
use Rattle.hlc_log.specs.Senders.{told_apart}
use Rattle.hlc_log_text.specs.declared.log_word.LogWord.{LogWord}
use Rattle.hlc_log_text.specs.declared.log_word.LogWord.TheVariants as word
use Rattle.hlc_log_text.specs.Names.{first_mentions}
use Rattle.hlc_log_text.specs.Labels.{label_at}
use Rattle.hlc_log_text.specs.LogItem.{LogItem, events_in, file_names_in, questions_in, reasons_in}
use Rattle.hlc_log_text.specs.NamedEvent.{NamedEvent, without_asides}
use Rattle.hlc_log_text.specs.Question.{plain_asked}
use Rattle.hlc_log_text.specs.ReadText.{LinesRise, ReadText}
use Rattle.hlc_log_text.specs.Skipped.{skip_count, skipped_count}

-- the name of a number
abbrev pub name_of : List (List ℕ) → ℕ → List ℕ
name_of names n = slice_index_or names n []

-- the word of what an event is; no record tells of one that receives something from outside, since that has no message with a name
abbrev pub kind_word : LogKind → LogWord
kind_word kind.Local = word.Local
kind_word (kind.Send m) = word.Send
kind_word (kind.Receive m) = word.Receive
kind_word kind.Restart = word.Restart
kind_word kind.Outside = word.Receive

-- the name of the message of an event, if it has one
abbrev pub kind_message : List (List ℕ) → LogKind → Option (List ℕ)
kind_message messages kind.Local = None
kind_message messages (kind.Send m) = Some (name_of messages m.0)
kind_message messages (kind.Receive m) = Some (name_of messages m.0)
kind_message messages kind.Restart = None
kind_message messages kind.Outside = None

-- an event with names in place of its numbers, without what is kept aside
abbrev pub with_names : (nodes messages : List (List ℕ)) → LogEvent → NamedEvent
with_names nodes messages e = record {
  head = record { word = kind_word e.kind; reading = e.reading; has_reading = e.has_reading; stamp = e.stamp; has_stamp = e.has_stamp };
  node = name_of nodes e.node.0;
  message = kind_message messages e.kind;
  from = None;
  carried = e.carried;
  seq = e.seq;
  label = None;
}

-- the numbers of an event have names
abbrev pub IsNamed : (nodes messages : List (List ℕ)) → LogEvent → Type 0
IsNamed nodes messages e = (e.node.0 < length nodes) × IsMessageBelow (length messages) e.kind

-- the names of the nodes that events mention, in the order of their first mentions, and so those of messages
abbrev pub node_names : List NamedEvent → List (List ℕ)
node_names events = first_mentions (map (λ e. e.node) events)

abbrev pub message_names : List NamedEvent → List (List ℕ)
message_names events = first_mentions (filter_map (λ e. e.message) events)

-- the label of the event at a place, if there is such an event and it has one
abbrev pub label_of_event : List NamedEvent → ℕ → Option (List ℕ)
label_of_event events place = option_and_then (λ e. e.label) (slice_get events place)

-- the name of the node that the event at a place tells in place of its message, if there is such an event and it does
abbrev pub sender_of_event : List NamedEvent → ℕ → Option (List ℕ)
sender_of_event events place = option_and_then (λ e. e.from) (slice_get events place)

-- the text has these events in their order as they were read, messages without a name being of one name, the empty one: each name has the number of
-- its place, each label stands at its event's place, and lines rise
pub record IsRawLogOf (events : List NamedEvent) (text : ReadText) : Type 0 where
  pub told : map (with_names text.details.nodes (message_names events)) text.log.events ≡ map without_asides events
  pub named : All (IsNamed text.details.nodes (message_names events)) text.log.events
  pub nodes : text.details.nodes ≡ node_names events
  pub messages : text.messages ≡ length (message_names events)
  pub few_nodes : length text.details.nodes ≤ MAX_LOG_NODES
  pub few_messages : text.messages ≤ length text.log.events
  pub labels : (place : ℕ) → label_at text.details.labels place ≡ label_of_event events place
  pub lines_rise : LinesRise text.log.events

-- so it has the events that records tell of, the questions that they ask and the files that they begin, in their order, and knows how many were left
-- out, and why
pub record IsRawTextOf (items : List LogItem) (text : ReadText) : Type 0 where
  pub log : IsRawLogOf (events_in items) text
  pub questions : map plain_asked text.details.questions ≡ questions_in items
  pub skipped : skipped_count text.details.skipped ≡ skip_count items
  pub left_out : map (λ b. b.why) text.details.left_out ≡ reasons_in items
  pub files : map (λ mark. mark.name) text.details.files ≡ file_names_in items

-- the node of a name among the names of a log's nodes, if it is one
abbrev pub node_of : List (List ℕ) → Option (List ℕ) → Option NodeId
node_of nodes None = None
node_of nodes (Some name) = option_map (λ n. record { 0 = n }) (position (bytes_eq name) nodes)

-- the nodes that events name as senders, by their places
abbrev pub senders_of : (nodes : List (List ℕ)) → List NamedEvent → List (Option NodeId)
senders_of nodes events = map (λ e. node_of nodes e.from) events

-- the number of the messages without a name, if there are such
abbrev pub unnamed_in : (messages : List (List ℕ)) → Option ℕ
unnamed_in messages = position (bytes_eq []) messages

-- a log with the messages without a name told apart, if there are such, which have this number among so many
abbrev pub apart_if : (unnamed : Option ℕ) → (messages : ℕ) → List (Option NodeId) → List LogEvent → List LogEvent
apart_if None messages senders events = events
apart_if (Some n) messages senders events = told_apart (record { 0 = n }) messages senders events

-- below how many the numbers of messages then are
abbrev pub apart_count : (unnamed : Option ℕ) → (messages count : ℕ) → ℕ
apart_count None messages count = messages
apart_count (Some n) messages count = messages + count

-- the text has these events in their order: as they were read, each name has the number of its place, and messages without a name are of one name,
-- the empty one; these were then told apart by who sent them with which stamp. Each label stands at its event's place, and lines rise
pub record IsLogOf (events : List NamedEvent) (text : ReadText) : Type 0 where
  pub raw : List LogEvent
  pub told : map (with_names text.details.nodes (message_names events)) raw ≡ map without_asides events
  pub named : All (IsNamed text.details.nodes (message_names events)) raw
  pub apart : text.log.events ≡ apart_if (unnamed_in (message_names events)) (length (message_names events)) (senders_of text.details.nodes events) raw
  pub nodes : text.details.nodes ≡ node_names events
  pub names : text.message_names ≡ message_names events
  pub messages : text.messages ≡ apart_count (unnamed_in (message_names events)) (length (message_names events)) (length raw)
  pub few_nodes : length text.details.nodes ≤ MAX_LOG_NODES
  pub few_messages : text.messages ≤ 2 * length text.log.events
  pub labels : (place : ℕ) → label_at text.details.labels place ≡ label_of_event events place
  pub lines_rise : LinesRise text.log.events

-- the text has the events that records tell of, the questions that they ask and the files that they begin, in their order, and knows how many were left
-- out, and why
pub record IsTextOf (items : List LogItem) (text : ReadText) : Type 0 where
  pub log : IsLogOf (events_in items) text
  pub questions : map plain_asked text.details.questions ≡ questions_in items
  pub skipped : skipped_count text.details.skipped ≡ skip_count items
  pub left_out : map (λ b. b.why) text.details.left_out ≡ reasons_in items
  pub files : map (λ mark. mark.name) text.details.files ≡ file_names_in items

-- how many records a text has
abbrev pub record_count : ReadText → ℕ
record_count text = length text.log.events + length text.details.questions + skipped_count text.details.skipped + length text.details.left_out
