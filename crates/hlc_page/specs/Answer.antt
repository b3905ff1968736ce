-- What a page asks of a text, which bytes are the answer, and with which status.
use Rattle.std.specs.Prelude.{◌≡◌, ◌⊎◌, ◌==◌, ◌-◌, ◌^◌, ℕ, Bool, List, [], Option, Some, None}
use Rattle.std.specs.Prelude.{if◌then◌else◌}
use Rattle.std.specs.Io.KnownBytes.{Appends}
use Rattle.hlc_stamp.specs.declared.id.EventId.{EventId}
use Rattle.hlc_stamp.specs.declared.limits.TheConstants.{MAX_CAPACITY, MAX_RECORDS}
use Rattle.hlc_stamp.specs.declared.settings.Settings.{Settings}
use Rattle.hlc_log_text.specs.declared.log_rules.LogRules.{LogRules}
use Rattle.hlc_log_text.specs.declared.question.LogQuestion.{LogQuestion}
use Rattle.hlc_log_text.specs.ReadLog.{HasTooMany}
use Rattle.hlc_json_lines.specs.Rules.{Rules}
use Rattle.hlc_log_audit.specs.declared.outcome.Outcome.{Outcome}
use Rattle.hlc_log_audit.specs.declared.outcome.Outcome.TheVariants.{BadLog, Broken, OverLimit, Sound}
use Rattle.hlc_command_line.specs.Asked.{AreAsked}
use Rattle.hlc_command_line.specs.declared.drawn_part.DrawnPart.TheVariants.{Chain, Rows}
use Rattle.hlc_command_line.specs.declared.drawn_part.DrawnPart.{DrawnPart}
use Rattle.hlc_command_line.specs.declared.drawn_part.DrawnRows.TheVariants.{Around, Between}
use Rattle.hlc_command_line.specs.declared.line_order.AuditOptions.{AuditOptions}
use Rattle.hlc_command_line.specs.declared.line_order.DrawLogOptions.{DrawLogOptions}
use Rattle.hlc_command_line.specs.declared.line_order.LogLine.TheVariants.{Counted}
use Rattle.hlc_command_line.specs.declared.line_order.LogLine.{LogLine}
use Rattle.hlc_command_line.specs.declared.line_order.OutputForm.TheVariants as form
use Rattle.hlc_command_line.specs.declared.line_order.OutputForm.{OutputForm}
use Rattle.hlc_command_line.specs.declared.command_fault.CommandFault.TheVariants as stop
use Rattle.hlc_trace.specs.Trace.{IsJudged}
use Rattle.hlc_seeded.specs.Storm.{storm_of}
use Rattle.hlc_text.specs.Steps.{printed_text}
use Rattle.hlc_script_commands.specs.Answered.{IsScriptAnswered}
use Rattle.hlc_script_commands.specs.Drawn.{IsDrawnWhole, IsDrawnWithout}
use Rattle.hlc_script_commands.specs.Traced.{IsScriptTraced}
use Rattle.hlc_log_commands.specs.Audited.{IsAuditedBy}
use Rattle.hlc_log_commands.specs.DrawnLog.{IsLogDrawnBut, IsLogDrawnWhole}
use Rattle.hlc_log_commands.specs.LogVectors.{HasVectors}
use Rattle.hlc_log_commands.specs.Records.{records_in}
use Rattle.hlc_log_commands.specs.Unopened.{IsToldBad}
use Rattle.hlc_page.specs.Given.{AreRecordsOf, IsJsonOf}
use Rattle.hlc_page.specs.declared.page_log.PageLog.{PageLog}
use Rattle.hlc_page.specs.declared.status.TheConstants.{PAGE_BAD_LOG, PAGE_BROKEN, PAGE_NO_EVENT, PAGE_OK, PAGE_OVER_LIMIT}

-- a limit as a number: the greatest is none
abbrev pub limit_of : ℕ → Option ℕ
limit_of number = if number == 2 ^ 64 - 1 then None else Some number

-- an event as a number: the greatest names none
abbrev pub event_of : ℕ → Option EventId
event_of number = if number == 2 ^ 32 - 1 then None else Some (record { 0 = number })

-- a line of a log as a number, counted over all files: the greatest names none
abbrev pub line_of : ℕ → Option LogLine
line_of number = if number == 2 ^ 32 - 1 then None else Some (Counted number)

-- the settings of which these are the numbers
abbrev pub settings_of : (nodes capacity limit : ℕ) → Settings
settings_of nodes capacity limit = record { nodes = nodes; capacity = capacity; limit = limit_of limit }

-- what a command does, in terms of what its input holds and its output gets
abbrev pub Command : Type 1
Command = (input before after : Option (List ℕ)) → Type 0

-- these bytes are what the program writes if it carries out this command on that text
abbrev pub IsAnswer : Command → (text answer : List ℕ) → Type 0
IsAnswer IsDone text answer = IsDone (Some text) (Some []) (Some answer)

-- these bytes are the answer to that script, by these numbers
abbrev pub IsScriptAnswer : (nodes capacity limit : ℕ) → (script : List ℕ) → (status : ℕ) → (answer : List ℕ) → Type 0
IsScriptAnswer nodes capacity limit script status answer =
    (status ≡ PAGE_OK) × IsAnswer (IsScriptAnswered (settings_of nodes capacity limit)) script answer

-- the events of a history from one to another, or the chain of one, by these numbers
abbrev pub events_between : (explained from to : ℕ) → DrawnPart EventId
events_between explained from to = Rows (Between (event_of from) (event_of to)) (event_of explained)

abbrev pub chain_of : (event : ℕ) → DrawnPart EventId
chain_of event = Chain (record { 0 = event })

-- these bytes are the picture of a part of the history that the script leaves, and the status says whether the events that are named are there
abbrev pub IsPicture : (nodes capacity limit : ℕ) → DrawnPart EventId → (script : List ℕ) → (status : ℕ) → (answer : List ℕ) → Type 0
IsPicture nodes capacity limit part script status answer =
    ((status ≡ PAGE_OK) × IsAnswer (IsDrawnWhole (settings_of nodes capacity limit) part) script answer)
    ⊎ ((status ≡ PAGE_NO_EVENT) × IsAnswer (IsDrawnWithout (settings_of nodes capacity limit) part) script answer)

-- these bytes are the log of the history that the script leaves, with vectors or without
abbrev pub IsTrace : (nodes capacity limit : ℕ) (vector : Bool) → (script : List ℕ) → (status : ℕ) → (answer : List ℕ) → Type 0
IsTrace nodes capacity limit vector script status answer =
    (status ≡ PAGE_OK) × IsAnswer (IsScriptTraced (settings_of nodes capacity limit) vector) script answer

-- these bytes are what the program writes if it judges that trace
abbrev pub IsVerdicts : (trace : List ℕ) → (status : ℕ) → (answer : List ℕ) → Type 0
IsVerdicts trace status answer = (status ≡ PAGE_OK) × IsAnswer (IsJudged MAX_RECORDS) trace answer

-- these bytes are the script of that seed
abbrev pub IsStorm : (nodes steps seed : ℕ) → (status : ℕ) → (answer : List ℕ) → Type 0
IsStorm nodes steps seed status answer = (status ≡ PAGE_OK) × Appends (Some []) (Some answer) (printed_text (storm_of seed nodes steps))

-- the log that a page gives, in records: what its lines of JSON make by these rules, or its text
abbrev pub records_of : PageLog → Option Rules → Option (List ℕ)
records_of log json = records_in json (Some log.text.now)

-- these bytes are the events of the log with their vectors
pub record AreVectors (log : PageLog) (answer : List ℕ) : Type 0 where
  pub records : LogRules
  pub are_records : AreRecordsOf log records
  pub json : Option Rules
  pub is_json : IsJsonOf log json
  pub written : HasVectors records (records_of log json) (Some []) (Some answer)

-- these bytes tell why the text is no log
pub record IsToldNoLog (log : PageLog) (answer : List ℕ) : Type 0 where
  pub records : LogRules
  pub are_records : AreRecordsOf log records
  pub json : Option Rules
  pub is_json : IsJsonOf log json
  pub told : IsToldBad MAX_CAPACITY records (records_of log json) (Some []) (Some answer)

-- these bytes are the events of the log with their vectors, or tell why it is none, as the status does
abbrev pub IsVectorsAnswer : PageLog → (status : ℕ) → (answer : List ℕ) → Type 0
IsVectorsAnswer log status answer = ((status ≡ PAGE_OK) × AreVectors log answer) ⊎ ((status ≡ PAGE_BAD_LOG) × IsToldNoLog log answer)

-- the form of an audit's output, as a number: 0 rows of CSV, 1 one object of JSON, and any other text
abbrev pub output_of : ℕ → OutputForm
output_of number = if number == 0 then form.Csv else if number == 1 then form.Json else form.Text

-- these are the options to audit a log by these numbers
pub record AreAuditOptionsOf (log : PageLog) (limit : ℕ) (report grouped : Bool) (output : ℕ) (options : AuditOptions) : Type 0 where
  pub records_are : AreRecordsOf log options.records
  pub limit_is : options.limit ≡ limit_of limit
  pub report_is : options.report ≡ report
  pub groups_are : options.groups ≡ grouped
  pub output_is : options.output ≡ output_of output

-- these bytes are what the program writes if it audits the log by these options, with what these texts ask of it, and finds this
pub record IsAuditOf (log : PageLog) (asked : List (List ℕ)) (limit : ℕ) (report grouped : Bool) (output : ℕ) (found : Outcome) (answer : List ℕ)
    : Type 0 where
  pub options : AuditOptions
  pub are_options : AreAuditOptionsOf log limit report grouped output options
  pub json : Option Rules
  pub is_json : IsJsonOf log json
  pub questions : List LogQuestion
  pub are_asked : AreAsked asked questions
  pub audited : IsAuditedBy options questions (records_of log json) (Some []) (Some answer) found

-- the status that says what an audit found
abbrev pub outcome_status : Outcome → ℕ
outcome_status Sound = PAGE_OK
outcome_status OverLimit = PAGE_OVER_LIMIT
outcome_status (Broken over) = PAGE_BROKEN
outcome_status BadLog = PAGE_BAD_LOG

-- these bytes are what the program writes if it audits the log by these numbers, and the status says what it finds
abbrev pub IsAudit : PageLog → (asked : List (List ℕ)) (limit : ℕ) (report grouped : Bool) (output : ℕ) → (status : ℕ) → (answer : List ℕ) → Type 0
IsAudit log asked limit report grouped output status answer =
    (found : Outcome) × (status ≡ outcome_status found) × IsAuditOf log asked limit report grouped output found answer

-- the log has more records than are taken
pub record IsLogTooLong (log : PageLog) : Type 0 where
  pub records : LogRules
  pub are_records : AreRecordsOf log records
  pub json : Option Rules
  pub is_json : IsJsonOf log json
  pub many : HasTooMany records MAX_CAPACITY (records_of log json)

-- the rows of a log from one event to another
abbrev pub part_between : (explained from to : ℕ) → DrawnPart LogLine
part_between explained from to = Rows (Between (line_of from) (line_of to)) (line_of explained)

-- so many rows of a log about the event on a line, or with 0 rows the chain of that event alone
abbrev pub part_around : (explained line rows : ℕ) → DrawnPart LogLine
part_around explained line rows = if rows == 0 then Chain (Counted line) else Rows (Around (Counted line) rows) (line_of explained)

-- these are the options to draw a part of a log by these numbers
pub record AreDrawingOf (log : PageLog) (part : DrawnPart LogLine) (options : DrawLogOptions) : Type 0 where
  pub records_are : AreRecordsOf log options.records
  pub part_is : options.part ≡ part

-- the program did this as it drew a part of the log by these numbers, and wrote these bytes
pub record IsDrawing (IsDone : DrawLogOptions → Command) (log : PageLog) (part : DrawnPart LogLine) (answer : List ℕ) : Type 0 where
  pub options : DrawLogOptions
  pub are_options : AreDrawingOf log part options
  pub json : Option Rules
  pub is_json : IsJsonOf log json
  pub done : IsDone options (records_of log json) (Some []) (Some answer)

-- these bytes are the picture of a part of the log, or tell why there is none, as the status does
abbrev pub IsPartAnswer : PageLog → DrawnPart LogLine → (status : ℕ) → (answer : List ℕ) → Type 0
IsPartAnswer log part status answer =
    ((status ≡ PAGE_OK) × IsDrawing IsLogDrawnWhole log part answer)
    ⊎ (((status ≡ PAGE_NO_EVENT) × IsDrawing (IsLogDrawnBut stop.NoEvent) log part answer)
    ⊎ ((status ≡ PAGE_BAD_LOG) × IsDrawing (IsLogDrawnBut stop.BadLog) log part answer))

-- so it is of its rows from one event to another
abbrev pub IsLogAnswer : PageLog → (explained from to : ℕ) → (status : ℕ) → (answer : List ℕ) → Type 0
IsLogAnswer log explained from to = IsPartAnswer log (part_between explained from to)

-- so it is of so many rows about an event, or of its chain
abbrev pub IsAroundAnswer : PageLog → (explained line rows : ℕ) → (status : ℕ) → (answer : List ℕ) → Type 0
IsAroundAnswer log explained line rows = IsPartAnswer log (part_around explained line rows)
