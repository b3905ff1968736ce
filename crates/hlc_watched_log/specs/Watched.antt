-- A watched log: what is kept of it, and what each record adds and is answered with.
use Rattle.std.specs.Prelude.{◌==◌, ◌+◌, ◌%◌, ℕ, Bool, false, List, [], ◌∷◌, ◌++◌, ◌||◌, Option, Some, None, Result, Ok, Err, codes, decimal, if◌then◌else◌, length, nat_lt, not, unwrap_or}
use Rattle.std.specs.List.{flat_map, list_any}
use Rattle.hlc_csv.specs.Rows.{Fields}
use Rattle.hlc_log.specs.declared.log_event.LogEvent.{LogEvent}
use Rattle.hlc_log.specs.declared.log_event.LogKind.{LogKind}
use Rattle.hlc_log.specs.declared.log_event.LogKind.TheVariants as kind
use Rattle.hlc_log.specs.declared.log_event.TheConstants.{MAX_LOG_NODES}
use Rattle.hlc_log_text.specs.BadLog.{bad_log_column, bad_log_word}
use Rattle.hlc_log_text.specs.LogColumn.{column_name}
use Rattle.hlc_log_text.specs.LogItem.{LogItem, if_event}
use Rattle.hlc_log_text.specs.LogText.{name_of}
use Rattle.hlc_log_text.specs.NamedEvent.{NamedEvent}
use Rattle.hlc_log_text.specs.Names.{with_name}
use Rattle.hlc_log_text.specs.StampForms.{greatest_c}
use Rattle.hlc_log_text.specs.declared.bad_log.BadLog.{BadLog}
use Rattle.hlc_log_text.specs.declared.bad_log.BadLog.TheVariants as bad
use Rattle.hlc_log_text.specs.declared.extras.Extras.{Extras}
use Rattle.hlc_log_text.specs.declared.log_column.LogColumn.{LogColumn}
use Rattle.hlc_log_text.specs.declared.log_column.LogColumn.TheVariants as column
use Rattle.hlc_log_text.specs.declared.log_word.LogWord.{LogWord}
use Rattle.hlc_log_text.specs.declared.log_word.LogWord.TheVariants as word
use Rattle.hlc_log_text.specs.declared.record_head.RecordHead.{RecordHead}
use Rattle.hlc_log_text.specs.declared.stamp_form.StampForm.{StampForm}
use Rattle.hlc_log_text.specs.declared.stamp_form.StampForm.TheVariants as form
use Rattle.hlc_watch.specs.Kept.{receive_count}
use Rattle.hlc_watch.specs.Laws.{told_as}
use Rattle.hlc_watch.specs.Records.{ruled_by}
use Rattle.hlc_watch.specs.Watching.{KeptLog, after_event, no_log}
use Rattle.hlc_watch.specs.declared.records.Records.{Records}
use Rattle.hlc_watch.specs.declared.file_line.FileLine.{FileLine}
use Rattle.hlc_watched_log.specs.CauseRows.{cause_rows, has_cause, is_broken, row_if}
use Rattle.hlc_watched_log.specs.Files.{KeptFiles, line_here, marked_at, moved_to, no_files, told_line}
use Rattle.hlc_watched_log.specs.Numbers.{name_number}
use Rattle.hlc_watched_log.specs.Skews.{ShownSkews, skew_rows, skews_after}
use Rattle.hlc_watched_log.specs.Summary.{claimed_ahead, count_rows, no_counts, node_rows, one_more, tallies_after, with_found, with_kind}
use Rattle.hlc_watched_log.specs.declared.log_names.LogNames.{LogNames}
use Rattle.hlc_watched_log.specs.declared.node_tally.NodeTally.{NodeTally}
use Rattle.hlc_watched_log.specs.declared.watch_counts.WatchCounts.{WatchCounts}
use Rattle.hlc_watched_log.specs.declared.watch_rules.WatchRules.{WatchRules}

-- the names of nodes and files, and what is counted of each node; where its lines stand; how many events came; what is kept of them; the skews that
-- they show; and what is counted of all
pub record WatchedLog : Type 0 where
  pub names : LogNames
  pub files : KeptFiles
  pub tallies : List NodeTally
  pub events : ℕ
  pub kept : KeptLog
  pub skews : ShownSkews
  pub counts : WatchCounts

-- nothing came
abbrev pub no_events : (keep : ℕ) → WatchedLog
no_events keep = record {
  names = record { nodes = []; files = [] };
  files = no_files;
  tallies = [];
  events = 0;
  kept = no_log keep;
  skews = [];
  counts = no_counts;
}

-- the next record stands on a line
abbrev pub on_line : WatchedLog → (line : ℕ) → WatchedLog
on_line log line = record log { files = moved_to log.files line }

-- a record on a line marks a file of a name: the next lines are its own
abbrev pub in_file : WatchedLog → (name : List ℕ) → (line : ℕ) → WatchedLog
in_file log name line = record log {
  names = record { nodes = log.names.nodes; files = with_name log.names.files name };
  files = marked_at log.files (name_number log.names.files name + 1) line;
}

-- what an event of a word is; its message is told apart by its name, and numbered 0 here, as all are
abbrev pub kind_of : LogWord → LogKind
kind_of word.Local = kind.Local
kind_of word.Send = kind.Send (record { 0 = 0 })
kind_of word.Receive = kind.Receive (record { 0 = 0 })
kind_of word.Restart = kind.Restart

-- an event of a node with this name, which a record tells of
abbrev pub event_by : WatchedLog → RecordHead → Extras → (node : List ℕ) → LogEvent
event_by log head extras node = record {
  node = record { 0 = name_number log.names.nodes node };
  reading = head.reading;
  has_reading = head.has_reading;
  kind = kind_of head.word;
  stamp = head.stamp;
  has_stamp = head.has_stamp;
  carried = extras.carried;
  seq = extras.seq;
  line = (line_here log.files).number;
}

-- what a record tells of an event but for its head and names
abbrev pub extras_of : NamedEvent → Extras
extras_of named = record { carried = named.carried; seq = named.seq }

-- the name of its message, which is empty if it has none
abbrev pub message_of : NamedEvent → List ℕ
message_of named = unwrap_or named.message []

abbrev pub event_on : WatchedLog → NamedEvent → LogEvent
event_on log named = event_by log named.head (extras_of named) named.node

-- the first column of a stamp
abbrev pub stamp_column : StampForm → LogColumn
stamp_column form.Pair = column.L
stamp_column _ = column.Stamp

-- whether an event of a word has a message without a name
abbrev pub is_unnamed : LogWord → (message : List ℕ) → Bool
is_unnamed word.Local message = false
is_unnamed word.Send message = length message == 0
is_unnamed word.Receive message = length message == 0
is_unnamed word.Restart message = false

-- why an event can't be watched, if it can't: it claims no stamp by which it could be judged, its message has no name, or it names one node too many
abbrev pub unwatched_by : StampForm → LogWord → (has_stamp : Bool) → (message : List ℕ) → (node : ℕ) → Option BadLog
unwatched_by form w has_stamp message node =
    if not has_stamp then Some (bad.Number (stamp_column form))
    else if is_unnamed w message then Some (bad.Name column.Message)
    else if node == MAX_LOG_NODES then Some bad.Node
    else None

abbrev pub unwatched : StampForm → (nodes : List (List ℕ)) → NamedEvent → Option BadLog
unwatched form nodes named =
    unwatched_by form named.head.word named.head.has_stamp (message_of named) (name_number nodes named.node)

-- why a record is bad, if it is: it says nothing, or tells of such an event
abbrev pub bad_event : StampForm → (nodes : List (List ℕ)) → Option NamedEvent → Option BadLog
bad_event form nodes None = None
bad_event form nodes (Some named) = unwatched form nodes named

abbrev pub bad_of : StampForm → (nodes : List (List ℕ)) → Result LogItem BadLog → Option BadLog
bad_of form nodes (Ok item) = bad_event form nodes (if_event item)
bad_of form nodes (Err why) = Some why

-- the row of a record on a line that is bad
abbrev pub column_field : Option LogColumn → Fields
column_field None = []
column_field (Some column) = column_name column ∷ []

abbrev pub bad_row : (files : List (List ℕ)) → FileLine → BadLog → Fields
bad_row files line why = codes "bad" ∷ told_line files line ∷ bad_log_word why ∷ column_field (bad_log_column why)

-- the row of an event on a line that claims to be further ahead than a limit, if there is one
abbrev pub is_over : (limit ahead : Option ℕ) → Bool
is_over (Some limit) (Some ahead) = nat_lt limit ahead
is_over _ _ = false

abbrev pub over_row : LogNames → FileLine → LogEvent → Fields
over_row names line event =
    codes "over" ∷ name_of names.nodes event.node.0 ∷ told_line names.files line ∷ decimal (unwrap_or (claimed_ahead event) 0) ∷ []

-- the records that are complete as an event of a file comes, with the name of its message
abbrev pub complete_as : WatchRules → KeptLog → (file : ℕ) → LogEvent → (message : List ℕ) → List Records
complete_as rules kept file event message = told_as kept (ruled_by rules.records.receives file event) message

-- the same, of an event that comes next
abbrev pub complete_next : WatchRules → WatchedLog → LogEvent → (message : List ℕ) → List Records
complete_next rules log event message = complete_as rules log.kept log.files.current event message

-- what is counted, with an event more
abbrev pub counts_after : WatchRules → WatchCounts → (complete : List Records) → LogEvent → WatchCounts
counts_after rules before complete event =
    with_found (with_kind before event.kind) (list_any (is_broken (greatest_c rules.records.form)) complete) (is_over rules.limit (claimed_ahead event))

-- what is kept, once an event more is counted, whose node has this name; and once it is watched, whose message has this one
abbrev pub with_counted : WatchedLog → (node : List ℕ) → LogEvent → WatchedLog
with_counted log node event = record log {
  names = record { nodes = with_name log.names.nodes node; files = log.names.files };
  tallies = tallies_after log.tallies (line_here log.files) event;
  events = log.events + 1;
}

abbrev pub with_watched : WatchRules → WatchedLog → (message : List ℕ) → LogEvent → WatchedLog
with_watched rules log message event = record log {
  kept = after_event log.kept (ruled_by rules.records.receives log.files.current event) message;
  skews = skews_after log.skews (complete_next rules log event message);
  counts = counts_after rules log.counts (complete_next rules log event message) event;
}

-- what is kept, with an event more, whose node and message have these names
abbrev pub with_event : WatchRules → WatchedLog → (node message : List ℕ) → LogEvent → WatchedLog
with_event rules log node message event = record {
  names = record { nodes = with_name log.names.nodes node; files = log.names.files };
  files = log.files;
  tallies = tallies_after log.tallies (line_here log.files) event;
  events = log.events + 1;
  kept = after_event log.kept (ruled_by rules.records.receives log.files.current event) message;
  skews = skews_after log.skews (complete_next rules log event message);
  counts = counts_after rules log.counts (complete_next rules log event message) event;
}

-- so of one that a record tells of
abbrev pub with_named : WatchRules → WatchedLog → NamedEvent → WatchedLog
with_named rules log named = with_event rules log named.node (message_of named) (event_on log named)

-- the rows of an event on a line: the causes of the records that are complete now, and that it is over the limit
abbrev pub event_rows : WatchRules → LogNames → (complete : List Records) → FileLine → LogEvent → List Fields
event_rows rules names complete line event =
    flat_map (cause_rows names (greatest_c rules.records.form)) complete ++ row_if (is_over rules.limit (claimed_ahead event)) (over_row names line event)

-- whether there is one: a cause, or that it is over the limit
abbrev pub is_told : WatchRules → (complete : List Records) → LogEvent → Bool
is_told rules complete event = list_any (has_cause (greatest_c rules.records.form)) complete || is_over rules.limit (claimed_ahead event)

-- the rows that sum a log up: its nodes, what is counted, and skews
abbrev pub summary_rows : WatchedLog → List Fields
summary_rows log =
    node_rows log.names log.tallies
    ++ (count_rows log.counts (receive_count log.kept.messages.awaited) log.kept.messages.forgotten ++ skew_rows log.names log.skews)

-- they are due after every so many events
abbrev pub is_due : (every : Option ℕ) → (events : ℕ) → Bool
is_due None events = false
is_due (Some every) events = if every == 0 then false else events % every == 0

abbrev pub due_rows : (every : Option ℕ) → WatchedLog → List Fields
due_rows every log = if is_due every log.events then summary_rows log else []

-- what a record is answered with that tells of an event, if it does
abbrev pub told_rows : WatchRules → WatchedLog → Option NamedEvent → List Fields
told_rows rules log None = []
told_rows rules log (Some named) =
    let next = with_named rules log named in
    let event = event_on log named in
    event_rows rules next.names (complete_next rules log event (message_of named)) (line_here log.files) event ++ due_rows rules.every next

-- what one is answered with that is to say this, and is bad for that reason, if it is
abbrev pub rows_by : WatchRules → WatchedLog → Option BadLog → Option NamedEvent → List Fields
rows_by rules log (Some why) event = bad_row log.names.files (line_here log.files) why ∷ []
rows_by rules log None event = told_rows rules log event

-- what is kept after it
abbrev pub without_bad : WatchedLog → WatchedLog
without_bad log = record log { counts = record log.counts { left_out = one_more log.counts.left_out } }

abbrev pub with_told : WatchRules → WatchedLog → Option NamedEvent → WatchedLog
with_told rules log None = log
with_told rules log (Some named) = with_named rules log named

abbrev pub log_by : WatchRules → WatchedLog → Option BadLog → Option NamedEvent → WatchedLog
log_by rules log (Some why) event = without_bad log
log_by rules log None event = with_told rules log event

-- the event of what a record is to say
abbrev pub said_event : Result LogItem BadLog → Option NamedEvent
said_event (Ok item) = if_event item
said_event (Err why) = None

-- what a record is answered with that is to say this, and what is kept then
abbrev pub rows_at : WatchRules → WatchedLog → Result LogItem BadLog → List Fields
rows_at rules log said = rows_by rules log (bad_of rules.records.form log.names.nodes said) (said_event said)

abbrev pub log_at : WatchRules → WatchedLog → Result LogItem BadLog → WatchedLog
log_at rules log said = log_by rules log (bad_of rules.records.form log.names.nodes said) (said_event said)
