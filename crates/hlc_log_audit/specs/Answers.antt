-- The rows that answer what is asked about a log.
use Rattle.std.specs.Prelude.{◌≡◌, Bool, true, false, ℕ, List, [], ◌∷◌, length, Option, Some, None, codes, decimal, if◌then◌else◌, map, option_map, position, unwrap_or}
use Rattle.std.specs.List.Sorted.{IsPermutation, IsSorted}
use Rattle.std.specs.Option.{option_and_then}
use Rattle.std.specs.Ordering.{nat_cmp}
use Rattle.std.specs.Str.{bytes_eq}
use Rattle.hlc_stamp.specs.Order.{Pair}
use Rattle.hlc_causality.specs.Assignment.{pair_at}
use Rattle.hlc_explain.specs.declared.answers.Drift.{Drift}
use Rattle.hlc_explain.specs.declared.answers.Missing.TheVariants as missing
use Rattle.hlc_explain.specs.Answer.{Answer, answer_of, answer_row}
use Rattle.hlc_explain.specs.EventQuestion as about
use Rattle.hlc_explain.specs.EventQuestion.{EventQuestion, events_asked, question_word}
use Rattle.hlc_causes.specs.declared.answers.Finding.{Finding}
use Rattle.hlc_csv.specs.Rows.{Fields}
use Rattle.hlc_log.specs.CausalOrder.{place_at}
use Rattle.hlc_log.specs.declared.log_event.LogEvent.{LogEvent}
use Rattle.hlc_ordered_log.specs.Found.{FindsAt}
use Rattle.hlc_ordered_log.specs.InOrder.{LogInOrder, claimed_of, clocks_of, event_in_order, line_in, reading_told, skeleton_of}
use Rattle.hlc_log_text.specs.CauseWord.{cause_text}
use Rattle.hlc_log_text.specs.Files.{line_at, line_text, location_text}
use Rattle.hlc_log_text.specs.Labels.{label_at}
use Rattle.hlc_log_text.specs.declared.cause_word.CauseWord.{CauseWord}
use Rattle.hlc_log_text.specs.declared.file_mark.FileMark.{FileMark}
use Rattle.hlc_log_text.specs.declared.location.Location.{Location}
use Rattle.hlc_log_text.specs.LogText.{name_of}
use Rattle.hlc_log_text.specs.Question.{Asked, Check, Claimed, Drift as DriftAsked, Event, Explain, First, Influenced, Relation as RelationAsked, Tainted, Why}
use Rattle.hlc_log_audit.specs.ClaimedWay.{claimed_way}
use Rattle.hlc_log_audit.specs.FirstToBreak.{NamesFirstToBreak}
use Rattle.hlc_log_audit.specs.Lines.{position_on}
use Rattle.hlc_log_audit.specs.ToldDrift.{told_drift}
use Rattle.hlc_log_audit.specs.Words.{found_word, missing_row}

-- the row of a line or of an event's position, or the refusal if there is no such line or event
abbrev pub if_event : Option ℕ → (ℕ → Fields) → Fields
if_event None row = missing_row missing.Event
if_event (Some k) row = row k

-- a row is one that tells of a line or of an event's position, or the refusal if there is no such line or event
abbrev pub IfEvent : Option ℕ → (ℕ → Fields → Type 0) → Fields → Type 0
IfEvent None Tells row = row ≡ missing_row missing.Event
IfEvent (Some k) Tells row = Tells k row

-- how the line of the event at a position is told
abbrev pub told_in : List FileMark → LogInOrder → ℕ → List ℕ
told_in files log k = line_text files (line_in log k)

-- the row of a word, the line that was asked about, a stamp, and the lines of some events
abbrev pub way_fields : List FileMark → (word : List ℕ) → LogInOrder → ℕ → Pair → List ℕ → Fields
way_fields files word log line stamp events =
    word ∷ line_text files line ∷ decimal stamp.l ∷ decimal stamp.c ∷ map (line_text files) (map (line_in log) events)

-- the row of the way on which the claimed l of the event at k came, with its claimed stamp
abbrev pub claimed_fields : List FileMark → LogInOrder → (line k : ℕ) → Fields
claimed_fields files log line k =
    way_fields files (codes "claimed") log line (pair_at (claimed_of log) k) (claimed_way (skeleton_of log) (claimed_of log) k)

-- some lines are those of events, each once, and rise
pub record AreRisingLinesOf (log : LogInOrder) (events lines : List ℕ) : Type 0 where
  pub of_events : IsPermutation (map (line_in log) events) lines
  pub rising : IsSorted nat_cmp lines

-- some lines are those of events, in the order of the events, or rising if the events are a set
abbrev pub AreLinesOf : LogInOrder → (is_set : Bool) → (events lines : List ℕ) → Type 0
AreLinesOf log true events lines = AreRisingLinesOf log events lines
AreLinesOf log false events lines = lines ≡ map (line_in log) events

-- the row tells what is found: a word, what was asked about, and the answer with the lines of its events
abbrev pub TellsAnswer : List FileMark → LogInOrder → (word : List ℕ) → (asked : Fields) → Answer → Fields → Type 0
TellsAnswer files log word asked found row =
    (lines : List ℕ) × AreLinesOf log found.is_set found.events lines × (row ≡ answer_row word asked (map (line_text files) lines) found)

-- what is found of the events at positions, by the least stamps
abbrev pub found_in : LogInOrder → EventQuestion → Answer
found_in log question = answer_of (skeleton_of log) (clocks_of log) log.least question

-- the position of the event of a location, if the log has it, or else the end of the log
abbrev pub position_at : List FileMark → LogInOrder → Location → Option ℕ
position_at files log location = option_and_then (λ line. position_on log line) (line_at files location)

abbrev pub position_or_end : List FileMark → LogInOrder → Location → ℕ
position_or_end files log location = unwrap_or (position_at files log location) (length log.events)

-- what is asked about events by their lines, as it is asked by their positions, if the log has them; other questions aren't
abbrev pub question_at : List FileMark → LogInOrder → Asked → Option EventQuestion
question_at files log (Explain event) = option_map (λ k. about.Explain k) (position_at files log event)
question_at files log (RelationAsked first second) =
    option_and_then (λ j. option_map (λ k. about.Relation j k) (position_at files log second)) (position_at files log first)
question_at files log (Influenced event) = option_map (λ k. about.Influenced k) (position_at files log event)
question_at files log (Why first second) =
    option_and_then (λ j. option_map (λ k. about.Why j k) (position_at files log second)) (position_at files log first)
question_at files log (Tainted event) = option_map (λ k. about.Tainted k) (position_at files log event)
question_at files log _ = None

-- the row answers a question about the events at positions, and tells these by their lines; or it refuses a question about others
abbrev pub AnswersAt : List FileMark → LogInOrder → Option EventQuestion → Fields → Type 0
AnswersAt files log None row = row ≡ missing_row missing.Event
AnswersAt files log (Some question) row =
    TellsAnswer files log (question_word question) (map (line_text files) (map (line_in log) (events_asked question))) (found_in log question) row

-- the row says whether events at some locations are a chain for the least stamp of one
abbrev pub AnswersCheck : List FileMark → LogInOrder → Location → List Location → Fields → Type 0
AnswersCheck files log event chain row =
    TellsAnswer files log (codes "check") (location_text event ∷ [])
    (found_in log (about.Check (position_or_end files log event) (map (position_or_end files log) chain))) row

-- how far a node's stamps ran ahead of its clock, at which line, and where that began, or that no reading of it is told
abbrev pub drift_fields : List FileMark → LogInOrder → Option Drift → Fields
drift_fields files log None = codes "none" ∷ []
drift_fields files log (Some drift) = decimal drift.ahead ∷ told_in files log drift.event.0 ∷ told_in files log drift.origin.0 ∷ []

-- the drift of a node, by the least stamps, among its events whose reading is told
abbrev pub drift_in : LogInOrder → (node : ℕ) → Option Drift
drift_in log node = told_drift (skeleton_of log) (clocks_of log) (reading_told log) log.least node

-- the row of the drift of a node, by its number, or the refusal if the log doesn't name it
abbrev pub drift_row : List FileMark → LogInOrder → (name : List ℕ) → Option ℕ → Fields
drift_row files log name None = missing_row missing.Node
drift_row files log name (Some node) = codes "drift" ∷ name ∷ drift_fields files log (drift_in log node)

-- a label, if there is one
abbrev pub label_fields : Option (List ℕ) → Fields
label_fields None = []
label_fields (Some label) = label ∷ []

-- what the clock read at an event, or nothing if that isn't told
abbrev pub reading_field : LogEvent → List ℕ
reading_field event = if event.has_reading then decimal event.reading else []

-- the row of what is known of an event: its node, its reading, its claimed or given stamp, the least one, what is found, and its label
abbrev pub event_fields : (name line : List ℕ) → LogEvent → Pair → Option Finding → Option (List ℕ) → Fields
event_fields name line event least found label =
    codes "event" ∷ line ∷ name ∷ reading_field event ∷ decimal event.stamp.l ∷ decimal event.stamp.c
    ∷ decimal least.l ∷ decimal least.c ∷ found_word found ∷ label_fields label

-- what is known of the event at k, given this finding
abbrev pub event_fields_at : List FileMark → (nodes : List (List ℕ)) → (labels : List (ℕ × List ℕ)) → LogInOrder → (line k : ℕ) → Option Finding → Fields
event_fields_at files nodes labels log line k found =
    let event = event_in_order log.events log.order k in
    event_fields (name_of nodes event.node.0) (line_text files line) event (pair_at log.least k) found (label_at labels (place_at log.order k))

-- the row has what is known of the event at k
abbrev pub TellsEvent : List FileMark → (nodes : List (List ℕ)) → (labels : List (ℕ × List ℕ)) → LogInOrder → (full line k : ℕ) → Fields → Type 0
TellsEvent files nodes labels log full line k row =
    (found : Option Finding) × FindsAt log full k found × (row ≡ event_fields_at files nodes labels log line k found)

-- the line of the event at a position, or that there is none
abbrev pub line_or_none : List FileMark → LogInOrder → Option ℕ → List ℕ
line_or_none files log None = codes "none"
line_or_none files log (Some k) = told_in files log k

-- the row has the line of the first event of a node, by its number, that breaks the rule which a word tells, or that none does; or it refuses a node
-- that the log doesn't name
abbrev pub AnswersFirst : List FileMark → LogInOrder → (full : ℕ) → (name : List ℕ) → (rule : CauseWord) → (node : Option ℕ) → Fields → Type 0
AnswersFirst files log full name rule None row = row ≡ missing_row missing.Node
AnswersFirst files log full name rule (Some node) row =
    (found : Option ℕ) × NamesFirstToBreak log full rule node found
    × (row ≡ codes "first" ∷ name ∷ cause_text rule ∷ line_or_none files log found ∷ [])

-- the row answers what is asked
abbrev pub IsAnswer : List FileMark → (nodes : List (List ℕ)) → (labels : List (ℕ × List ℕ)) → LogInOrder → (full : ℕ) → Asked → Fields → Type 0
IsAnswer files nodes labels log full (Explain event) row = AnswersAt files log (question_at files log (Explain event)) row
IsAnswer files nodes labels log full (Check event chain) row = AnswersCheck files log event chain row
IsAnswer files nodes labels log full (RelationAsked first second) row =
    AnswersAt files log (question_at files log (RelationAsked first second)) row
IsAnswer files nodes labels log full (Influenced event) row = AnswersAt files log (question_at files log (Influenced event)) row
IsAnswer files nodes labels log full (DriftAsked name) row = row ≡ drift_row files log name (position (bytes_eq name) nodes)
IsAnswer files nodes labels log full (Claimed event) row =
    row ≡ if_event (line_at files event) (λ line. if_event (position_on log line) (claimed_fields files log line))
IsAnswer files nodes labels log full (Event event) row =
    IfEvent (line_at files event) (λ line. IfEvent (position_on log line) (TellsEvent files nodes labels log full line)) row
IsAnswer files nodes labels log full (Why first second) row = AnswersAt files log (question_at files log (Why first second)) row
IsAnswer files nodes labels log full (Tainted event) row = AnswersAt files log (question_at files log (Tainted event)) row
IsAnswer files nodes labels log full (First name rule) row = AnswersFirst files log full name rule (position (bytes_eq name) nodes) row

-- the rows answer the questions, in their order
abbrev pub AreAnswers : List FileMark → (nodes : List (List ℕ)) → (labels : List (ℕ × List ℕ)) → LogInOrder → (full : ℕ) → List Asked → List Fields → Type 0
AreAnswers files nodes labels log full [] [] = Unit {0}
AreAnswers files nodes labels log full (question ∷ questions) (row ∷ rows) =
    IsAnswer files nodes labels log full question row × AreAnswers files nodes labels log full questions rows
AreAnswers files nodes labels log full _ _ = ⊥
