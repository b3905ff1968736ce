-- The laws of logs that tell of histories.
use Rattle.std.specs.Prelude.{◌≡◌, ℕ, ◌<◌, ◌≤◌, List, Some, None, decimal, length, map, option_map, slice_index_or, ◌==◌, false, true, [], ◌∷◌, ◌++◌}
use Rattle.std.specs.List.{list_any}
use Rattle.hlc_stamp.specs.declared.limits.TheConstants.{MAX_CAPACITY, MAX_READING}
use Rattle.hlc_causality.specs.declared.receives.Receives.TheVariants.{Tick}
use Rattle.hlc_arena.specs.Arena.{IsWellFormed}
use Rattle.hlc_arena.specs.ClockRule.{HasLeastStamps}
use Rattle.hlc_arena.specs.History.{Delivered, Erased, EventKind, History, Sent, StampedEvent, Synced, Written, event_at, stamp_at}
use Rattle.hlc_causes.specs.Causes.{no_causes}
use Rattle.hlc_csv.specs.Records.{AreAllOf, IsOnly}
use Rattle.hlc_log.specs.Events.{event_at as log_event_at}
use Rattle.hlc_log.specs.Standing.{seq_at}
use Rattle.hlc_log.specs.declared.log_event.LogKind.{LogKind}
use Rattle.hlc_log.specs.declared.log_event.LogKind.TheVariants as kind
use Rattle.hlc_ordered_log.specs.Found.{NamesCausesIn}
use Rattle.hlc_ordered_log.specs.InOrder.{IsCarriedRightly, IsInOrder, LogInOrder, claimed_of}
use Rattle.hlc_log_text.specs.LogItem.{Tells}
use Rattle.hlc_log_text.specs.LogText.{kind_word}
use Rattle.hlc_log_text.specs.ReadText.{ReadText}
use Rattle.hlc_log_text.specs.NamedEvent.{NamedEvent}
use Rattle.hlc_log_text.specs.ReadLog.{IsReadWhole, MakeItems}
use Rattle.hlc_log_text.specs.LogRules.{exact_rules}
use Rattle.hlc_log_text.specs.declared.stamp_form.StampForm.TheVariants as form
use Rattle.hlc_history_log.specs.Label.{label_of}
use Rattle.hlc_history_log.specs.LogRows.{log_rows, log_text, message_of}
use Rattle.hlc_history_log.specs.VectorText.{event_text}

-- the event at e was read from a clock
pub record HasReading (events : List StampedEvent) (e : ℕ) : Type 0 where
  pub positive : 1 ≤ (event_at events e).reading
  pub in_range : (event_at events e).reading ≤ MAX_READING

-- a history as a cluster makes them: well-formed, with readings of clocks, and with least stamps
pub record IsClocked (h : History) : Type 0 where
  pub well_formed : IsWellFormed h
  pub readings : (e : ℕ) → e < length h.events → HasReading h.events e
  pub least : HasLeastStamps h.events

-- what the event at a place is in a log
abbrev pub log_kind : ℕ → EventKind → LogKind
log_kind e (Written key value) = kind.Local
log_kind e (Erased key) = kind.Local
log_kind e (Sent to write) = kind.Send (record { 0 = e })
log_kind e (Synced to writes) = kind.Send (record { 0 = e })
log_kind e (Delivered sent) = kind.Receive (record { 0 = sent })

-- what is told is the event at e: its word, its reading and its stamp, and as a label what happened; its node and its message go by
-- their numbers, no sender is named in place of the message, and nothing is told of what that carried, and no seq
pub record TellsOf (events : List StampedEvent) (e : ℕ) (told : NamedEvent) : Type 0 where
  pub word : told.head.word ≡ kind_word (log_kind e (event_at events e).kind)
  pub reading : told.head.reading ≡ (event_at events e).reading
  pub has_reading : told.head.has_reading ≡ true
  pub stamp : told.head.stamp ≡ stamp_at events e
  pub has_stamp : told.head.has_stamp ≡ true
  pub node : told.node ≡ decimal (event_at events e).node
  pub message : told.message ≡ option_map decimal (message_of e (event_at events e).kind)
  pub from : told.from ≡ None
  pub carried : told.carried ≡ None
  pub seq : told.seq ≡ 0
  pub label : told.label ≡ Some (label_of events (event_at events e).kind)

-- told events are those of a history, in its order
pub record TellHistory (events : List StampedEvent) (told : List NamedEvent) : Type 0 where
  pub one_each : length told ≡ length events
  pub each : (e : ℕ) (default : NamedEvent) → e < length events → TellsOf events e (slice_index_or told e default)

-- no byte of a text ends a line
abbrev pub HasNoLineFeed : List ℕ → Type 0
HasNoLineFeed text = list_any (λ byte. byte == 10) text ≡ false

-- a text is two lines
pub record IsTwoLines (text : List ℕ) : Type 0 where
  pub first : List ℕ
  pub second : List ℕ
  pub none_in_first : HasNoLineFeed first
  pub none_in_second : HasNoLineFeed second
  pub text_is : text ≡ (first ++ 10 ∷ []) ++ (second ++ 10 ∷ [])

-- with vectors each event has two lines, whatever bytes its key has
abbrev pub TwoLinesEach : Type 0
TwoLinesEach = (h : History) (e : ℕ) → IsClocked h → e < length h.events → IsTwoLines (event_text h.nodes h.events e)

-- the rows of a history are read back from their text
abbrev pub LogsReadBack : Type 0
LogsReadBack = (events : List StampedEvent) → AreAllOf (Some (log_text events)) (log_rows events) × IsOnly (Some (log_text events)) (log_rows events)

-- they tell of the events of the history, and ask nothing
abbrev pub RowsMakeEvents : Type 0
RowsMakeEvents = (h : History) → IsClocked h → (told : List NamedEvent)
    × MakeItems (exact_rules form.Pair) (log_rows h.events) (map (λ event. Tells event) told) × TellHistory h.events told

-- a text that was read is the log of a history
abbrev pub IsLogRead : History → ReadText → Type 0
IsLogRead h text = IsReadWhole (exact_rules form.Pair) MAX_CAPACITY (Some (log_text h.events)) text

-- whoever reads the log finds a causal order in it
abbrev pub LogsHaveAnOrder : Type 0
LogsHaveAnOrder = (h : History) (text : ReadText) → IsClocked h → IsLogRead h text →
    (log : LogInOrder) × (log.receives ≡ Tick) × (log.events ≡ text.log.events) × IsInOrder log

-- whoever reads the log has an event for each of the history's, and is asked nothing, and nothing was left out
abbrev pub LogsTellEventsAlone : Type 0
LogsTellEventsAlone = (h : History) (text : ReadText) → IsClocked h → IsLogRead h text →
    (length text.log.events ≡ length h.events) × (text.details.questions ≡ []) × (text.details.skipped ≡ None) × (text.details.left_out ≡ [])

-- and the log tells what each event's clock read
abbrev pub LogsTellReadings : Type 0
LogsTellReadings = (h : History) (text : ReadText) (e : ℕ) → IsClocked h → IsLogRead h text → e < length text.log.events →
    (log_event_at text.log.events e).has_reading ≡ true

-- and its stamp
abbrev pub LogsTellStamps : Type 0
LogsTellStamps = (h : History) (text : ReadText) (e : ℕ) → IsClocked h → IsLogRead h text → e < length text.log.events →
    (log_event_at text.log.events e).has_stamp ≡ true

-- but of no event what its message carried
abbrev pub LogsTellNothingCarried : Type 0
LogsTellNothingCarried = (h : History) (text : ReadText) (e : ℕ) → IsClocked h → IsLogRead h text → e < length text.log.events →
    (log_event_at text.log.events e).carried ≡ None

-- and of no event a seq
abbrev pub LogsTellNoSeqs : Type 0
LogsTellNoSeqs = (h : History) (text : ReadText) (e : ℕ) → IsClocked h → IsLogRead h text → e < length text.log.events → seq_at text.log.events e ≡ 0

-- no event of a log in order is a cause, whatever c can be written
abbrev pub HasNoCause : LogInOrder → Type 0
HasNoCause log = (full k : ℕ) → k < length log.order → NamesCausesIn log full k no_causes

-- and in each such order the stamps are the least ones of clocks that tick at receives, no message carried another stamp, and none is a cause
abbrev pub LogsAuditClean : Type 0
LogsAuditClean = (h : History) (text : ReadText) (log : LogInOrder) → IsClocked h → IsLogRead h text →
    log.receives ≡ Tick → log.events ≡ text.log.events → IsInOrder log → (claimed_of log ≡ log.least) × IsCarriedRightly log × HasNoCause log
