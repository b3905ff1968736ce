-- A log that was opened.
use Rattle.std.specs.Prelude.{◌≡◌, ◌≢◌, ℕ, ◌+◌, ◌≤◌, List, [], ◌∷◌, ◌++◌, Option, Some, None, if◌then◌else◌, length, map, slice_get}
use Rattle.hlc_log.specs.declared.log_event.TheConstants.{MAX_LOG_NODES}
use Rattle.hlc_log.specs.Events.{event_at}
use Rattle.hlc_log.specs.Parted.{IsParted}
use Rattle.hlc_log.specs.Resent.{resent_count, with_resent}
use Rattle.hlc_log.specs.StandingOrder.{arranged}
use Rattle.hlc_log.specs.Unsent.{unsent_count, with_unsent}
use Rattle.hlc_log.specs.declared.log_event.LogEvent.{LogEvent}
use Rattle.hlc_log.specs.declared.resent.Resent.{Resent}
use Rattle.hlc_ordered_log.specs.InOrder.{AreFilled, IsInOrder, LogInOrder}
use Rattle.hlc_log_text.specs.Labels.{label_at}
use Rattle.hlc_log_text.specs.LogDetails.{ToldDetails}
use Rattle.hlc_log_text.specs.ReadLog.{IsReadWhole}
use Rattle.hlc_log_text.specs.StampForms.{greatest_c}
use Rattle.hlc_log_text.specs.declared.bad_log.BadLine.{BadLine}
use Rattle.hlc_log_text.specs.declared.bad_log.BadLog.TheVariants as bad
use Rattle.hlc_log_text.specs.declared.fault_rule.FaultRule.{FaultRule}
use Rattle.hlc_log_text.specs.declared.fault_rule.FaultRule.TheVariants.{LeaveOut}
use Rattle.hlc_log_text.specs.declared.file_mark.FileMark.{FileMark}
use Rattle.hlc_log_text.specs.declared.log_rules.LogRules.{LogRules}
use Rattle.hlc_log_text.specs.ReadText.{HaveNames, LinesRise, ReadText}
use Rattle.hlc_log_text.specs.declared.question.LogQuestion.{LogQuestion}
use Rattle.hlc_log_text.specs.declared.skipped.Skipped.{Skipped}

-- a log in a causal order, with the files in which its records stand, the names of its nodes, its labels, what is asked in it, how many of its receives
-- were taken as local events, if they were to be, how many of its sends sent a message again, if they might, which records were left out of it, if some
-- were, those that are bad and were left out, and the greatest c that the form of its stamps writes
pub record OpenedLog : Type 0 where
  pub log : LogInOrder
  pub files : List FileMark
  pub nodes : List (List ℕ)
  pub labels : List (ℕ × List ℕ)
  pub questions : List LogQuestion
  pub unsent : Option ℕ
  pub resent : Option ℕ
  pub skipped : Option Skipped
  pub left_out : List BadLine
  pub full : ℕ

-- what is so of each opened log
pub record IsOpen (opened : OpenedLog) : Type 0 where
  pub ordered : IsInOrder opened.log
  pub nodes_are : opened.log.nodes ≡ length opened.nodes
  pub rise : LinesRise opened.log.events
  pub few : length opened.nodes ≤ MAX_LOG_NODES
  pub named : HaveNames opened.log.events opened.nodes

-- an opened log is the same after as before, but for the order of its events
pub record IsReordered (before after : OpenedLog) : Type 0 where
  pub receives : after.log.receives ≡ before.log.receives
  pub events : after.log.events ≡ before.log.events
  pub files : after.files ≡ before.files
  pub nodes : after.nodes ≡ before.nodes
  pub labels : after.labels ≡ before.labels
  pub questions : after.questions ≡ before.questions
  pub unsent : after.unsent ≡ before.unsent
  pub resent : after.resent ≡ before.resent
  pub skipped : after.skipped ≡ before.skipped
  pub left_out : after.left_out ≡ before.left_out
  pub full : after.full ≡ before.full

-- the events of a log with so many messages, of which those that are sent again are told apart, if it is said which send a receive of one is of
abbrev pub resent_apart : Option Resent → (messages : ℕ) → List LogEvent → List LogEvent
resent_apart None messages events = events
resent_apart (Some resent) messages events = with_resent resent messages events

-- how many events send a message again, if they may
abbrev pub resent_of : Option Resent → List LogEvent → Option ℕ
resent_of None events = None
resent_of (Some resent) events = Some (resent_count events)

-- the events of a log that was read, with so many messages, before they are put in an order: messages that are sent again are told apart, if the rules say how;
-- then receives of messages that nobody sends came in from outside if it is told what these carried, and are else local if the rules say so
abbrev pub opened_events : LogRules → (messages : ℕ) → List LogEvent → List LogEvent
opened_events rules messages events = with_unsent rules.unsent_local (resent_apart rules.resent messages events)

-- how many receives of unsent messages are taken as local events, if the rules say so
abbrev pub unsent_of : LogRules → (messages : ℕ) → List LogEvent → Option ℕ
unsent_of rules messages events = if rules.unsent_local then Some (unsent_count (resent_apart rules.resent messages events)) else None

-- an event that was left out since it waits, as a bad record
abbrev pub cycle_line : List LogEvent → ℕ → BadLine
cycle_line events e = record { line = (event_at events e).line; why = bad.Cycle }

-- the rest of events, which stood at the kept places; the others wait, there are some, and these are their lines
pub record IsRestOf (rule : FaultRule) (events rest : List LogEvent) (kept : List ℕ) (lines : List BadLine) : Type 0 where
  pub leaves : rule ≡ LeaveOut
  pub left_out : List ℕ
  pub parted : IsParted events kept left_out
  pub some : left_out ≢ []
  pub rest_are : rest ≡ arranged events kept
  pub lines_are : lines ≡ map (cycle_line events) left_out

-- what of events is opened, by a rule for bad records: all; or, if those are left out and some events wait, the rest, of which the places are told
abbrev pub IsPartOf : FaultRule → (events rest : List LogEvent) → (kept : Option (List ℕ)) → (lines : List BadLine) → Type 0
IsPartOf rule events rest None lines = (rest ≡ events) × (lines ≡ [])
IsPartOf rule events rest (Some kept) lines = IsRestOf rule events rest kept lines

-- what a log tells beside its events, once these records are left out of it, too
abbrev pub with_left_out : ToldDetails → (lines : List BadLine) → ToldDetails
with_left_out details lines = record details { left_out = details.left_out ++ lines }

-- a part of events is opened, and their log tells afterwards which records were left out for it
abbrev pub IsPartOpened : FaultRule → (events rest : List LogEvent) → (kept : Option (List ℕ)) → (before after : ToldDetails) → Type 0
IsPartOpened rule events rest kept before after =
    (lines : List BadLine) × IsPartOf rule events rest kept lines × (after ≡ with_left_out before lines)

-- labels with one at a place before them, if there is one
abbrev pub with_label : ℕ → Option (List ℕ) → List (ℕ × List ℕ) → List (ℕ × List ℕ)
with_label k None labels = labels
with_label k (Some label) labels = (k, label) ∷ labels

-- the labels of events that stood at these places, and stand from k on
abbrev pub labels_from : List (ℕ × List ℕ) → (k : ℕ) → (places : List ℕ) → List (ℕ × List ℕ)
labels_from labels k [] = []
labels_from labels k (place ∷ places) = with_label k (label_at labels place) (labels_from labels (k + 1) places)

-- the labels of the events that are opened, if not all are of those at the kept places
abbrev pub labels_kept : (kept : Option (List ℕ)) → List (ℕ × List ℕ) → List (ℕ × List ℕ)
labels_kept None labels = labels
labels_kept (Some kept) labels = labels_from labels 0 kept

-- where the event at a place stood in the log that was read
abbrev pub place_read : (kept : Option (List ℕ)) → ℕ → Option ℕ
place_read None place = Some place
place_read (Some kept) place = slice_get kept place

-- events, or those of them that are opened, are in a causal order, by the rules, each without a stamp with the one that it is given; so many are taken as
-- local, and so many send again
pub record IsOrderedOf (rules : LogRules) (messages : ℕ) (events : List LogEvent) (kept : Option (List ℕ)) (lines : List BadLine) (log : LogInOrder)
    (unsent resent : Option ℕ) : Type 0 where
  pub receives : log.receives ≡ rules.receives
  pub rest : List LogEvent
  pub part : IsPartOf rules.faults (opened_events rules messages events) rest kept lines
  pub filled : AreFilled rest log.events
  pub in_order : IsInOrder log
  pub taken : unsent ≡ unsent_of rules messages events
  pub again : resent ≡ resent_of rules.resent events

-- a log that was read is opened, by the rules
pub record IsOpenedOf (rules : LogRules) (text : ReadText) (opened : OpenedLog) : Type 0 where
  pub kept : Option (List ℕ)
  pub lines : List BadLine
  pub ordered : IsOrderedOf rules text.messages text.log.events kept lines opened.log opened.unsent opened.resent
  pub files : opened.files ≡ text.details.files
  pub nodes : opened.nodes ≡ text.details.nodes
  pub labels : opened.labels ≡ labels_kept kept text.details.labels
  pub questions : opened.questions ≡ text.details.questions
  pub skipped : opened.skipped ≡ text.details.skipped
  pub left_out : opened.left_out ≡ text.details.left_out ++ lines
  pub full : opened.full ≡ greatest_c rules.form

-- the bytes are a log of at most so many records, which is opened
abbrev pub IsOpened : LogRules → (most : ℕ) → (bytes : Option (List ℕ)) → OpenedLog → Type 0
IsOpened rules most bytes opened = (text : ReadText) × IsReadWhole rules most bytes text × IsOpenedOf rules text opened
