-- What the reading of a log leaves.
use Rattle.std.specs.Prelude.{◌≡◌, ◌≢◌, ℕ, ◌<◌, ◌≤◌, ◌⊎◌, List, [], ◌∷◌, ◌++◌, Option, Some, None, false, length, map}
use Rattle.hlc_log.specs.declared.log_event.TheConstants.{MAX_LOG_NODES}
use Rattle.hlc_csv.specs.Records.{AreAllOf, BeginsWith, IsOnly}
use Rattle.hlc_csv.specs.Rows.{Fields}
use Rattle.hlc_log_text.specs.declared.file_mark.FileMark.{FileMark}
use Rattle.hlc_log.specs.declared.log_event.LogEvent.{LogEvent}
use Rattle.hlc_csv.specs.RecordLines.{line_of, told_lines}
use Rattle.hlc_csv.specs.TextEnd.{DoNotEndOpen, EndOpen, IsClosed}
use Rattle.hlc_csv.specs.declared.record_fault.RecordFault.{RecordFault}
use Rattle.hlc_csv.specs.declared.record_fault.RecordFault.TheVariants as reader
use Rattle.hlc_csv.specs.declared.records_fault.RecordsFault.{RecordsFault}
use Rattle.hlc_csv.specs.declared.records_fault.RecordsFault.TheVariants as ended
use Rattle.hlc_log_text.specs.declared.log_rules.LogRules.{LogRules}
use Rattle.hlc_log_text.specs.declared.bad_log.BadLine.{BadLine}
use Rattle.hlc_log_text.specs.declared.bad_log.BadRecord.{BadRecord}
use Rattle.hlc_log_text.specs.declared.bad_log.BadLog.{BadLog}
use Rattle.hlc_log_text.specs.declared.bad_log.BadLog.TheVariants as bad
use Rattle.hlc_log_text.specs.declared.fault.LogTextFault.{LogTextFault}
use Rattle.hlc_log_text.specs.declared.fault.LogTextFault.TheVariants as fault
use Rattle.hlc_log_text.specs.declared.skipped.Skipped.{Skipped}
use Rattle.hlc_log_text.specs.declared.partial_log.PartialLog.{PartialLog}
use Rattle.hlc_log_text.specs.declared.fault_rule.FaultRule.TheVariants.{TellEach}
use Rattle.hlc_log_text.specs.BadRecords.{MayBeLeftOut, bad_records_on, told_before}
use Rattle.hlc_log_text.specs.FaultRule.{leaves_out}
use Rattle.hlc_log_text.specs.LogItem.{LogItem, bad_lines_in, event_lines, events_in, marks_in}
use Rattle.hlc_log_text.specs.LogText.{IsTextOf, node_names}
use Rattle.hlc_log_text.specs.ReadText.{ReadText}
use Rattle.hlc_log_text.specs.Skipped.{skipped_in}
use Rattle.hlc_log_text.specs.PartialLog.{IsBadAfter, IsPartialLog, SaysAfter, text_with}

-- each of some records says what stands at its place, after those that say what stands before
abbrev pub SayAfter : LogRules → (before : List LogItem) → List Fields → List LogItem → Type 0
SayAfter rules before [] [] = Unit {0}
SayAfter rules before (fields ∷ records) (item ∷ items) = SaysAfter rules before fields item × SayAfter rules (before ++ item ∷ []) records items
SayAfter rules before _ _ = ⊥

-- so it is of the records with which a log begins
abbrev pub SayItems : LogRules → List Fields → List LogItem → Type 0
SayItems rules records items = SayAfter rules [] records items

-- they do, and their events name no more nodes than there may be
abbrev pub MakeItems : LogRules → List Fields → List LogItem → Type 0
MakeItems rules records items = SayItems rules records items × (length (node_names (events_in items)) ≤ MAX_LOG_NODES)

-- after records that say these items the next one ends the reading for this reason: it is the last, and nothing closes its last field; or it isn't
-- that, and says nothing, or names one node too many, and the rules don't leave it out
abbrev pub IsBadNext : LogRules → (bytes : Option (List ℕ)) → List Fields → List LogItem → Fields → BadLog → Type 0
IsBadNext rules bytes records items next why =
    (EndOpen bytes (records ++ next ∷ []) × (why ≡ bad.Quote))
    ⊎ (DoNotEndOpen bytes (records ++ next ∷ []) × IsBadAfter rules items next why × (leaves_out rules.faults why ≡ false))

-- if bytes are known, events have the lines of the records that tell of them
abbrev pub AreOnLines : Option (List ℕ) → List LogItem → List LogEvent → Type 0
AreOnLines None items events = Unit {0}
AreOnLines (Some bytes) items events = map (λ e. e.line) events ≡ event_lines items (told_lines bytes)

-- if bytes are known, what was left out is told by the lines of the records that say so
abbrev pub AreSkippedOnLines : Option (List ℕ) → List LogItem → Option Skipped → Type 0
AreSkippedOnLines None items skipped = Unit {0}
AreSkippedOnLines (Some bytes) items skipped = skipped ≡ skipped_in items (told_lines bytes)

-- if bytes are known, bad records that were left out are told with their lines
abbrev pub AreLeftOutOnLines : Option (List ℕ) → List LogItem → List BadLine → Type 0
AreLeftOutOnLines None items left_out = Unit {0}
AreLeftOutOnLines (Some bytes) items left_out = left_out ≡ bad_lines_in items (told_lines bytes)

-- if bytes are known, files have the lines of the records that begin them
abbrev pub AreMarksOnLines : Option (List ℕ) → List LogItem → List FileMark → Type 0
AreMarksOnLines None items files = Unit {0}
AreMarksOnLines (Some bytes) items files = files ≡ marks_in items (told_lines bytes)

-- if bytes are known, this is the line of the record at a place
abbrev pub IsOnLine : Option (List ℕ) → (place : ℕ) → ℕ → Type 0
IsOnLine None place line = Unit {0}
IsOnLine (Some bytes) place line = line ≡ line_of bytes place

-- these bytes are records, so many at most, whose quotation marks are closed, and what they say was read
pub record IsReadInto (rules : LogRules) (most : ℕ) (bytes : Option (List ℕ)) (partial : PartialLog) : Type 0 where
  pub records : List Fields
  pub items : List LogItem
  pub lines : List ℕ
  pub all : AreAllOf bytes records
  pub only : IsOnly bytes records
  pub closed : IsClosed bytes
  pub within : length records ≤ most
  pub make : SayItems rules records items
  pub held : IsPartialLog items lines partial
  pub on_lines : AreOnLines bytes items partial.log.events
  pub skipped : AreSkippedOnLines bytes items partial.skipped
  pub left_out : AreLeftOutOnLines bytes items partial.left_out.items
  pub files : AreMarksOnLines bytes items partial.files
  pub taken : MayBeLeftOut rules.faults partial.left_out.items

-- these bytes are records, so many at most, whose quotation marks are closed, and the text has their events, their questions and their files,
-- and knows which were left out
pub record IsReadWhole (rules : LogRules) (most : ℕ) (bytes : Option (List ℕ)) (text : ReadText) : Type 0 where
  pub records : List Fields
  pub items : List LogItem
  pub all : AreAllOf bytes records
  pub only : IsOnly bytes records
  pub closed : IsClosed bytes
  pub within : length records ≤ most
  pub make : SayItems rules records items
  pub held : IsTextOf items text
  pub on_lines : AreOnLines bytes items text.log.events
  pub skipped : AreSkippedOnLines bytes items text.details.skipped
  pub left_out : AreLeftOutOnLines bytes items text.details.left_out
  pub files : AreMarksOnLines bytes items text.details.files
  pub taken : MayBeLeftOut rules.faults text.details.left_out

-- so it is of what was read, with these names of nodes
abbrev pub IsTextRead : LogRules → (most : ℕ) → (bytes : Option (List ℕ)) → PartialLog → (nodes : List (List ℕ)) → Type 0
IsTextRead rules most bytes partial nodes = IsReadWhole rules most bytes (text_with nodes partial)

-- the bytes begin with records that say something or are left out, fewer than the most, and then one that ends the reading, on its line, which comes
-- after as many others at least; it is told, after those that were left out if each is to be told
pub record IsReadUpToBad (rules : LogRules) (most : ℕ) (bytes : Option (List ℕ)) (told : List BadRecord) : Type 0 where
  pub records : List Fields
  pub items : List LogItem
  pub next : Fields
  pub files : List FileMark
  pub before : List BadLine
  pub last : BadLine
  pub begins : BeginsWith bytes (records ++ next ∷ [])
  pub within : length records < most
  pub make : MakeItems rules records items
  pub is_bad : IsBadNext rules bytes records items next last.why
  pub on_line : IsOnLine bytes (length records) last.line
  pub late : length records < last.line
  pub marks : AreMarksOnLines bytes items files
  pub left_out : AreLeftOutOnLines bytes items before
  pub told_are : told ≡ bad_records_on files (told_before rules.faults before ++ last ∷ [])

-- the bytes are records, so many at most, whose quotation marks are closed; each that is bad is to be told, and there are some, which are told
pub record IsReadWithBad (rules : LogRules) (most : ℕ) (bytes : Option (List ℕ)) (told : List BadRecord) : Type 0 where
  pub records : List Fields
  pub items : List LogItem
  pub files : List FileMark
  pub bad : List BadLine
  pub all : AreAllOf bytes records
  pub only : IsOnly bytes records
  pub closed : IsClosed bytes
  pub within : length records ≤ most
  pub make : SayItems rules records items
  pub marks : AreMarksOnLines bytes items files
  pub left_out : AreLeftOutOnLines bytes items bad
  pub each : rules.faults ≡ TellEach
  pub some : told ≢ []
  pub told_are : told ≡ bad_records_on files bad

-- the bytes begin with the most records, which say something or are left out, and one more
pub record HasTooMany (rules : LogRules) (most : ℕ) (bytes : Option (List ℕ)) : Type 0 where
  pub records : List Fields
  pub items : List LogItem
  pub next : Fields
  pub begins : BeginsWith bytes (records ++ next ∷ [])
  pub full : length records ≡ most
  pub make : MakeItems rules records items

-- the fault of a reader of records
abbrev pub record_fault : RecordFault → LogTextFault
record_fault reader.Read = fault.Records ended.Read
record_fault reader.Memory = fault.Records ended.Memory

-- what the fault for which records are read no further tells of the bytes: reading them writes nothing
abbrev pub ExplainsEnd : LogRules → (most : ℕ) → (bytes : Option (List ℕ)) → RecordsFault → Type 0
ExplainsEnd rules most bytes ended.Read = Unit {0}
ExplainsEnd rules most bytes ended.Write = ⊥
ExplainsEnd rules most bytes ended.TooLong = HasTooMany rules most bytes
ExplainsEnd rules most bytes ended.Memory = Unit {0}

-- what a fault tells of the bytes
abbrev pub ExplainsFault : LogRules → (most : ℕ) → (bytes : Option (List ℕ)) → LogTextFault → Type 0
ExplainsFault rules most bytes (fault.Bad told) = IsReadUpToBad rules most bytes told.items ⊎ IsReadWithBad rules most bytes told.items
ExplainsFault rules most bytes (fault.Records why) = ExplainsEnd rules most bytes why
