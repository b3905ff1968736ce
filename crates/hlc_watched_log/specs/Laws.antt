-- The laws of a watched log.
use Rattle.std.specs.Prelude.{◌≡◌, ℕ, Contains, List, [], ◌∷◌, ◌++◌, Option, Some, None, bytes_eq, length, map, slice_index_or}
use Rattle.std.specs.List.{position_or_len}
use Rattle.hlc_log.specs.declared.log_event.LogEvent.{LogEvent}
use Rattle.hlc_log.specs.declared.log_event.LogKind.{LogKind}
use Rattle.hlc_log.specs.declared.log_event.LogKind.TheVariants as kind
use Rattle.hlc_log.specs.Events.{of_kind}
use Rattle.hlc_log_text.specs.FileMarks.{begun_file}
use Rattle.hlc_log_text.specs.NamedEvent.{NamedEvent}
use Rattle.hlc_log_text.specs.declared.bad_log.BadLog.{BadLog}
use Rattle.hlc_watch.specs.Coming.{TellApart}
use Rattle.hlc_watch.specs.Laws.{IsToldAt}
use Rattle.hlc_watch.specs.declared.records.Records.{Records}
use Rattle.hlc_watched_log.specs.Watched.{WatchedLog, bad_of, complete_as, event_on, message_of, on_line, said_event}
use Rattle.hlc_watched_log.specs.Watching.{Placed, WatchState, at_first, log_after, said_next, state_after, state_next}
use Rattle.hlc_watched_log.specs.declared.watch_rules.WatchRules.{WatchRules}

-- an event in the file of a number, with the name of its message
pub record FileEvent : Type 0 where
  pub file : ℕ
  pub event : LogEvent
  pub message : List ℕ

-- the event that a record adds, if it isn't bad
abbrev pub event_by_item : WatchedLog → Option BadLog → Option NamedEvent → List FileEvent
event_by_item log None (Some named) = record { file = log.files.current; event = event_on log named; message = message_of named } ∷ []
event_by_item log _ _ = []

-- if it doesn't mark a file
abbrev pub event_by_mark : WatchRules → WatchState → Placed → (mark : Option (List ℕ)) → List FileEvent
event_by_mark rules state next None =
    let said = said_next rules state next in
    event_by_item (on_line state.log next.1) (bad_of rules.records.form state.log.names.nodes said) (said_event said)
event_by_mark rules state next (Some name) = []

abbrev pub event_next : WatchRules → WatchState → Placed → List FileEvent
event_next rules state next = event_by_mark rules state next (begun_file next.0)

-- the events that records add, one after another
abbrev pub events_from : WatchRules → WatchState → List Placed → List FileEvent
events_from rules state [] = []
events_from rules state (next ∷ records) = event_next rules state next ++ events_from rules (state_next rules state next) records

abbrev pub events_told : WatchRules → List Placed → List FileEvent
events_told rules records = events_from rules (at_first rules) records

-- a message by its number, which is that of its name among events: the place of the first that comes with it
abbrev pub message_number : List FileEvent → (name : List ℕ) → ℕ
message_number events name = position_or_len (λ x. bytes_eq name x.message) events

abbrev pub numbered_kind : (number : ℕ) → LogKind → LogKind
numbered_kind number (kind.Send message) = kind.Send (record { 0 = number })
numbered_kind number (kind.Receive message) = kind.Receive (record { 0 = number })
numbered_kind number other = other

abbrev pub numbered : List FileEvent → FileEvent → LogEvent
numbered events x = of_kind (numbered_kind (message_number events x.message) x.event.kind) x.event

-- these events with their messages by numbers, the names of these, and the numbers of their files
abbrev pub events_of : List FileEvent → List LogEvent
events_of events = map (numbered events) events

abbrev pub messages_in : List FileEvent → List (List ℕ)
messages_in events = map (λ x. x.message) events

abbrev pub name_at : List FileEvent → ℕ → List ℕ
name_at events e = slice_index_or (messages_in events) e []

abbrev pub file_numbers : List FileEvent → List ℕ
file_numbers events = map (λ x. x.file) events

abbrev pub file_at : List FileEvent → ℕ → ℕ
file_at events e = slice_index_or (file_numbers events) e 0

-- the records that are complete as an event comes, and with which it is answered, are those that a watch tells then of the events so far
abbrev pub TellsAsWatched : Type 0
TellsAsWatched = (rules : WatchRules) (records : List Placed) (next : Placed) (event : FileEvent) (told : Records) →
    event_next rules (state_after rules (at_first rules) records) next ≡ event ∷ [] →
    Contains (complete_as rules (log_after rules records).kept event.file event.event event.message) told →
    let before = events_told rules records in
    let all = before ++ event ∷ [] in
    IsToldAt rules.records.receives rules.keep (file_at all) (name_at all) (events_of all) (length before) told

-- so these names tell the messages of the events apart
abbrev pub NamesTellApart : Type 0
NamesTellApart = (events : List FileEvent) → TellApart (name_at events) (events_of events)
