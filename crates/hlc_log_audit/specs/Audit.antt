-- What the audit of a log leaves.
use Rattle.std.specs.Prelude.{◌≡◌, ◌==◌, ◌↔◌, ◌⊎◌, ℕ, ◌<◌, Bool, true, false, IsTrue, List, [], ◌∷◌, ◌++◌, Option, Some, None, codes, decimal, if◌then◌else◌, length, map}
use Rattle.std.specs.Io.KnownBytes.{Appends}
use Rattle.hlc_causality.specs.NodeEvents.{drift_at}
use Rattle.hlc_causes.specs.declared.answers.Cause.TheVariants.{Behind, NotAbovePrevious, NotAboveSend}
use Rattle.hlc_stamp.specs.declared.id.EventId.{EventId}
use Rattle.hlc_csv.specs.Rows.{Fields, text_of}
use Rattle.hlc_log.specs.declared.log_event.LogEvent.{LogEvent}
use Rattle.hlc_log_text.specs.Files.{line_text}
use Rattle.hlc_log_text.specs.StampForms.{greatest_c}
use Rattle.hlc_log_text.specs.declared.file_mark.FileMark.{FileMark}
use Rattle.hlc_log_text.specs.Question.{Asked, plain_asked}
use Rattle.hlc_csv.specs.declared.records_fault.RecordsFault.{RecordsFault}
use Rattle.hlc_csv.specs.declared.records_fault.RecordsFault.TheVariants as ended
use Rattle.hlc_log_text.specs.ReadLog.{HasTooMany, IsReadWhole}
use Rattle.hlc_log_text.specs.declared.bad_log.BadLine.{BadLine}
use Rattle.hlc_log_text.specs.declared.bad_log.BadRecord.{BadRecord}
use Rattle.hlc_log_text.specs.declared.fault_rule.FaultRule.{FaultRule}
use Rattle.hlc_log_text.specs.declared.log_rules.LogRules.{LogRules}
use Rattle.hlc_log_text.specs.ReadText.{ReadText}
use Rattle.hlc_log_text.specs.declared.question.LogQuestion.{LogQuestion}
use Rattle.hlc_log_text.specs.declared.skipped.Skipped.{Skipped}
use Rattle.hlc_log_audit.specs.Answers.{AreAnswers}
use Rattle.hlc_ordered_log.specs.Counts.{AreCounted}
use Rattle.hlc_ordered_log.specs.Found.{BreaksAt}
use Rattle.hlc_ordered_log.specs.InOrder.{LogInOrder, reading_told, skeleton_of, wrong_of}
use Rattle.hlc_ordered_log.specs.Outside.{from_outside_count}
use Rattle.hlc_ordered_log.specs.Unread.{unread_count}
use Rattle.hlc_ordered_log.specs.Unstamped.{unstamped_count}
use Rattle.hlc_ordered_log.specs.declared.counts.Counts.{Counts}
use Rattle.hlc_open_log.specs.Opened.{IsOpened, IsOpenedOf, OpenedLog, opened_events}
use Rattle.hlc_open_log.specs.Unopened.{AreRecordsBad, HasNoOrder, bad_text, events_text, records_text}
use Rattle.hlc_open_log.specs.declared.bad_input.BadInput.{BadInput}
use Rattle.hlc_open_log.specs.declared.fault.OpenFault.{OpenFault}
use Rattle.hlc_open_log.specs.declared.fault.OpenFault.TheVariants as unopened
use Rattle.hlc_open_log.specs.declared.bad_event.BadEvent.{BadEvent}
use Rattle.hlc_log_audit.specs.LeftOut.{left_out_rows}
use Rattle.hlc_log_audit.specs.OverLimit.{IsClaimOver}
use Rattle.hlc_log_audit.specs.Report.{AreOverRows, IsReport}
use Rattle.hlc_log_audit.specs.declared.audited.Audited.{Audited}
use Rattle.hlc_log_audit.specs.declared.outcome.Outcome.{Outcome}
use Rattle.hlc_log_audit.specs.declared.outcome.Outcome.TheVariants as outcome
use Rattle.hlc_log_audit.specs.declared.rules.AuditRules.{AuditRules}

-- the row of a word and of how many events were taken in a way, if the rules say so
abbrev pub taken_row : (word : List ℕ) → Option ℕ → List Fields
taken_row word None = []
taken_row word (Some count) = (word ∷ decimal count ∷ []) ∷ []

-- the rows of how many receives of unsent messages were taken as local events, and of how many sends sent a message again
abbrev pub taken_rows : (unsent resent : Option ℕ) → List Fields
taken_rows unsent resent = taken_row (codes "unsent") unsent ++ taken_row (codes "resent") resent

-- the row of a word and of how many events this is so, if it is of some
abbrev pub counted_row : (word : List ℕ) → ℕ → List Fields
counted_row word n = if n == 0 then [] else (word ∷ decimal n ∷ []) ∷ []

-- the row of how many events a log doesn't tell the reading of, if there are some
abbrev pub unread_row : List LogEvent → List Fields
unread_row events = counted_row (codes "unread") (unread_count events)

-- the row of how many messages came in from outside, if some did
abbrev pub outside_row : List LogEvent → List Fields
outside_row events = counted_row (codes "outside") (from_outside_count events)

-- the row of how many receives a log doesn't tell the stamp of, if there are some
abbrev pub unstamped_row : List LogEvent → List Fields
unstamped_row events = counted_row (codes "unstamped") (unstamped_count events)

-- the row of how many records were left out of a log, with the line of the first, if some were
abbrev pub skipped_row : List FileMark → Option Skipped → List Fields
skipped_row files None = []
skipped_row files (Some skipped) = (codes "skipped" ∷ decimal skipped.count ∷ line_text files skipped.line ∷ []) ∷ []

-- the rows of what the log doesn't tell of events, and of what was left out of it
abbrev pub missing_rows : List FileMark → List LogEvent → Option Skipped → List Fields
missing_rows files events skipped = outside_row events ++ (unread_row events ++ (unstamped_row events ++ skipped_row files skipped))

-- the stamp that the log tells of the event at k is behind its reading, or not above a direct predecessor's, by the stamps that it saw claimed
abbrev pub IsOutOfOrder : LogInOrder → (full k : ℕ) → Type 0
IsOutOfOrder log full k =
    BreaksAt log full k Behind ⊎ ((d : EventId) × (BreaksAt log full k (NotAbovePrevious d) ⊎ BreaksAt log full k (NotAboveSend d)))

-- some stamp is
abbrev pub BreaksOrder : LogInOrder → ℕ → Type 0
BreaksOrder log full = (k : ℕ) × (k < length log.order) × IsOutOfOrder log full k

-- some message carried another stamp than the log claims for its send
abbrev pub CarriesWrongly : LogInOrder → Type 0
CarriesWrongly log = (k d : ℕ) × (k < length log.order) × (wrong_of log k ≡ Some d)

-- causality is broken: by a stamp, or by what a message carried
abbrev pub IsBroken : LogInOrder → ℕ → Type 0
IsBroken log full = BreaksOrder log full ⊎ CarriesWrongly log

-- of each log with these counts, the answer tells whether some stamp is
abbrev pub TellsDisorder : Counts → Bool → Type 0
TellsDisorder counts answer = (log : LogInOrder) (full : ℕ) → AreCounted log full counts → IsTrue answer ↔ BreaksOrder log full

-- the reading of the event at k is told, and its drift exceeds a limit
pub record IsBeyond (limit : ℕ) (log : LogInOrder) (k : ℕ) : Type 0 where
  pub exists : k < length (skeleton_of log)
  pub is_told : reading_told log k ≡ true
  pub beyond : limit < drift_at (skeleton_of log) log.least k

-- the drift of some such event exceeds the limit, if there is one
abbrev pub ExceedsLimit : Option ℕ → LogInOrder → Type 0
ExceedsLimit None log = ⊥
ExceedsLimit (Some limit) log = (k : ℕ) × IsBeyond limit log k

-- a claim is over the limit, if there is one
abbrev pub ClaimsOver : Option ℕ → LogInOrder → Type 0
ClaimsOver None log = ⊥
ClaimsOver (Some limit) log = (e : ℕ) × IsClaimOver limit log.events e

-- a log is over the limit: a drift exceeds it, or a claim is over it
abbrev pub IsOverLimit : Option ℕ → LogInOrder → Type 0
IsOverLimit limit log = ExceedsLimit limit log ⊎ ClaimsOver limit log

-- what an audit by these rules finds of a log in order
abbrev pub IsOutcome : AuditRules → LogInOrder → Outcome → Type 0
IsOutcome rules log outcome.Sound = (¬ IsBroken log (greatest_c rules.records.form)) × (¬ IsOverLimit rules.limit log)
IsOutcome rules log outcome.OverLimit = (¬ IsBroken log (greatest_c rules.records.form)) × IsOverLimit rules.limit log
IsOutcome rules log (outcome.Broken over) = IsBroken log (greatest_c rules.records.form) × (IsTrue over ↔ IsOverLimit rules.limit log)
IsOutcome rules log outcome.BadLog = ⊥

-- what is asked of a log: the questions in it, and then those beside it
abbrev pub all_asked : (questions asked : List LogQuestion) → List Asked
all_asked questions asked = map plain_asked questions ++ map plain_asked asked

-- whether the report is written: the rules want it, or nothing is asked
abbrev pub is_reported : AuditRules → List Asked → Bool
is_reported rules [] = true
is_reported rules (question ∷ questions) = rules.report

-- rows are the report on a log in order, with how many receives were taken as local, how many sends sent again, what isn't told of how many events,
-- which records were left out, which of these are bad, and which claims are over the limit, or there are none if it isn't written
abbrev pub IsReportIf : List FileMark → Bool → (nodes : List (List ℕ)) → LogInOrder → (full : ℕ) → (unsent resent : Option ℕ) → Option Skipped → List BadLine
    → (limit : Option ℕ) → List Fields → Type 0
IsReportIf files false nodes log full unsent resent skipped left_out limit rows = rows ≡ []
IsReportIf files true nodes log full unsent resent skipped left_out limit rows =
    (report over : List Fields) × IsReport files nodes log full report × AreOverRows files nodes log limit over
    × (rows ≡ (((report ++ taken_rows unsent resent) ++ missing_rows files log.events skipped) ++ left_out_rows files left_out) ++ over)

-- rows are the report on an opened log, if it is to be written, and the answers to what is asked
pub record AreRowsTold (opened : OpenedLog) (rules : AuditRules) (asked : List Asked) (rows : List Fields) : Type 0 where
  pub report : List Fields
  pub is_report : IsReportIf opened.files (is_reported rules asked) opened.nodes opened.log opened.full opened.unsent opened.resent opened.skipped
      opened.left_out rules.limit report
  pub answers : List Fields
  pub are_answers : AreAnswers opened.files opened.nodes opened.labels opened.log opened.full asked answers
  pub rows_are : rows ≡ report ++ answers

-- events of some files, whose messages have these names, have no causal order, and the writer got the rows that say why
abbrev pub IsDisorderShown : FaultRule → List FileMark → (names : List (List ℕ)) → List LogEvent → (before after : Option (List ℕ)) → Type 0
IsDisorderShown rule files names events before after =
    (told : List BadEvent) × HasNoOrder rule files names events told × Appends before after (events_text told)

-- a log that was read was opened, and the writer got the rows that tell of it, with this outcome
pub record IsTold (text : ReadText) (rules : AuditRules) (asked : List LogQuestion) (before after : Option (List ℕ)) (result : Outcome) : Type 0 where
  pub opened : OpenedLog
  pub is_opened : IsOpenedOf rules.records text opened
  pub rows : List Fields
  pub told : AreRowsTold opened rules (all_asked opened.questions asked) rows
  pub written : Appends before after (text_of rows)
  pub outcome : IsOutcome rules opened.log result

-- what the audit of a log that was read left, with this outcome: the rows that say why it has no order, or what is told of it
abbrev pub IsTextAudited : ReadText → AuditRules → List LogQuestion → (before after : Option (List ℕ)) → Outcome → Type 0
IsTextAudited text rules asked before after outcome.BadLog =
    IsDisorderShown rules.records.faults text.details.files text.message_names (opened_events rules.records text.messages text.log.events) before after
IsTextAudited text rules asked before after outcome.Sound = IsTold text rules asked before after outcome.Sound
IsTextAudited text rules asked before after outcome.OverLimit = IsTold text rules asked before after outcome.OverLimit
IsTextAudited text rules asked before after (outcome.Broken over) = IsTold text rules asked before after (outcome.Broken over)

-- the bytes are a log, of which this was left
pub record IsWholeAudited (rules : AuditRules) (most : ℕ) (asked : List LogQuestion) (bytes before after : Option (List ℕ)) (result : Outcome) : Type 0 where
  pub text : ReadText
  pub read : IsReadWhole rules.records most bytes text
  pub left : IsTextAudited text rules asked before after result

-- records of the bytes are bad, and the writer got the rows of those that are told
pub record IsBadTextShown (rules : AuditRules) (most : ℕ) (bytes before after : Option (List ℕ)) (result : Outcome) : Type 0 where
  pub told : List BadRecord
  pub read : AreRecordsBad rules.records most bytes told
  pub text : Appends before after (records_text told)
  pub is_bad : result ≡ outcome.BadLog

-- what the audit of some bytes left, with this outcome, and with these questions asked beside the log
abbrev pub IsAudited : AuditRules → (most : ℕ) → List LogQuestion → (bytes before after : Option (List ℕ)) → Outcome → Type 0
IsAudited rules most asked bytes before after result =
    IsWholeAudited rules most asked bytes before after result ⊎ IsBadTextShown rules most bytes before after result

-- input that couldn't be opened for this fault is bad: the writer got the rows that say why, and the answer says so
abbrev pub IsBadTold : OpenFault → (before after : Option (List ℕ)) → Audited → Type 0
IsBadTold fault before after audited =
    (bad : BadInput) × (fault ≡ unopened.Bad bad) × Appends before after (bad_text bad) × (audited.outcome ≡ outcome.BadLog)

-- input couldn't be opened, and this is why nothing is told of it: it was read no further, and the writer got nothing; else writing or memory failed
abbrev pub StopsOpening : {W : Type 0} → OpenFault → (old new : W) → RecordsFault → Type 0
StopsOpening fault old new ended.Read = (fault ≡ unopened.Records ended.Read) × (new ≡ old)
StopsOpening fault old new ended.Write = Unit {0}
StopsOpening fault old new ended.TooLong = (fault ≡ unopened.Records ended.TooLong) × (new ≡ old)
StopsOpening fault old new ended.Memory = Unit {0}

-- the bytes are a log of at most so many records, which has so many events once it is opened
abbrev pub HasEventCount : LogRules → (most : ℕ) → (bytes : Option (List ℕ)) → (count : ℕ) → Type 0
HasEventCount rules most bytes count = (opened : OpenedLog) × IsOpened rules most bytes opened × (count ≡ length opened.log.events)

-- what an audit answers tells how many events the log has, if the bytes are one
abbrev pub TellsEvents : LogRules → (most : ℕ) → (bytes : Option (List ℕ)) → Audited → Type 0
TellsEvents rules most bytes audited = ¬ (audited.outcome ≡ outcome.BadLog) → HasEventCount rules most bytes audited.events

-- how an audit of some bytes ends: it left this, with its outcome, and tells how many events they have, if they are a log
abbrev pub EndsAudit : AuditRules → (most : ℕ) → List LogQuestion → (bytes before after : Option (List ℕ)) → Audited → Type 0
EndsAudit rules most asked bytes before after audited =
    IsAudited rules most asked bytes before after audited.outcome × TellsEvents rules.records most bytes audited

-- why an audit of some bytes ends before: where they are read no further, the writer got nothing
abbrev pub StopsAudit : {W : Type 0} → LogRules → (most : ℕ) → (bytes : Option (List ℕ)) → (old new : W) → RecordsFault → Type 0
StopsAudit rules most bytes old new ended.Read = new ≡ old
StopsAudit rules most bytes old new ended.Write = Unit {0}
StopsAudit rules most bytes old new ended.TooLong = HasTooMany rules most bytes × (new ≡ old)
StopsAudit rules most bytes old new ended.Memory = Unit {0}
