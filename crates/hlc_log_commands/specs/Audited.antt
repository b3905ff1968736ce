-- What was audited.
use Rattle.std.specs.Prelude.{◌≡◌, ◌==◌, ◌||◌, ◌⊎◌, ⊤, Bool, ℕ, List, [], Option, None, Some, if◌then◌else◌, true, false}
use Rattle.std.specs.Io.KnownBytes.{Appends}
use Rattle.hlc_stamp.specs.declared.limits.TheConstants.{MAX_CAPACITY}
use Rattle.hlc_log_audit.specs.Audit.{HasEventCount}
use Rattle.hlc_log_audit.specs.declared.outcome.Outcome.{Outcome}
use Rattle.hlc_log_audit.specs.declared.outcome.Outcome.TheVariants as outcome
use Rattle.hlc_log_audit.specs.declared.rules.AuditRules.{AuditRules}
use Rattle.hlc_log_groups.specs.declared.group_detail.GroupDetail.{GroupDetail}
use Rattle.hlc_log_groups.specs.declared.group_detail.GroupDetail.TheVariants as detail
use Rattle.hlc_audit_forms.specs.AuditText.{IsTextOf}
use Rattle.hlc_audit_forms.specs.JsonRows.{IsJsonOf}
use Rattle.hlc_log_text.specs.declared.question.LogQuestion.{LogQuestion}
use Rattle.hlc_command_line.specs.declared.line_order.AuditOptions.{AuditOptions}
use Rattle.hlc_command_line.specs.declared.line_order.OutputForm.{OutputForm}
use Rattle.hlc_command_line.specs.declared.line_order.OutputForm.TheVariants as form
use Rattle.hlc_csv.specs.declared.records_fault.RecordsFault.{RecordsFault}
use Rattle.hlc_csv.specs.declared.records_fault.RecordsFault.TheVariants as records
use Rattle.hlc_command_line.specs.declared.command_fault.CommandFault.{CommandFault}
use Rattle.hlc_command_line.specs.declared.command_fault.CommandFault.TheVariants as stop
use Rattle.hlc_command_line.specs.declared.no_events.NoEvents.{NoEvents}
use Rattle.hlc_command_line.specs.declared.no_events.NoEvents.TheVariants.{Log}
use Rattle.hlc_log_commands.specs.GroupedAudit.{IsGroupedAudit}

-- whether a form is text
abbrev pub is_text : OutputForm → Bool
is_text form.Text = true
is_text _ = false

-- the rules that the options of a command line give: text has the report in any case
abbrev pub rules_of : AuditOptions → AuditRules
rules_of options = record { records = options.records; limit = options.limit; report = options.report || is_text options.output }

-- what they tell of groups: text has them in any case, and the first causes of each
abbrev pub told_in : OutputForm → (groups : Bool) → GroupDetail
told_in form.Text groups = detail.Places
told_in _ groups = if groups then detail.Groups else detail.Nothing

abbrev pub told_of : AuditOptions → GroupDetail
told_of options = told_in options.output options.groups

-- the rows that an audit leaves by these rules, which tell so much of groups, were told in another form
pub record IsToldAudit (IsTold : (rows text : List ℕ) → Type 0) (rules : AuditRules) (told : GroupDetail) (asked : List LogQuestion)
    (input before after : Option (List ℕ)) (found : Outcome) : Type 0 where
  pub rows : List ℕ
  pub audited : IsGroupedAudit rules told asked input (Some []) (Some rows) found
  pub text : List ℕ
  pub is_told : IsTold rows text
  pub written : Appends before after text

-- what an audit by these rules left, in a form of output: rows, or these as one object of JSON, or as text
abbrev pub IsAuditIn : OutputForm → AuditRules → GroupDetail → List LogQuestion → (input before after : Option (List ℕ)) → Outcome → Type 0
IsAuditIn form.Csv rules told asked input before after found = IsGroupedAudit rules told asked input before after found
IsAuditIn form.Json rules told asked input before after found = IsToldAudit IsJsonOf rules told asked input before after found
IsAuditIn form.Text rules told asked input before after found = IsToldAudit IsTextOf rules told asked input before after found

-- the log was audited by these options, with these questions asked beside it, and with this outcome, in the form of output that the options say
abbrev pub IsAuditedBy : AuditOptions → List LogQuestion → (input before after : Option (List ℕ)) → Outcome → Type 0
IsAuditedBy options asked input before after found = IsAuditIn options.output (rules_of options) (told_of options) asked input before after found

-- the options let an outcome pass: the log isn't over the limit, and if they are strict, it isn't broken
abbrev pub LetPass : AuditOptions → Outcome → Type 0
LetPass options outcome.Sound = ⊤
LetPass options outcome.OverLimit = ⊥
LetPass options (outcome.Broken over) = (options.strict ≡ false) × (over ≡ false)
LetPass options outcome.BadLog = ⊥

-- the fault of an audit, as a command's: a log that is too long has more records than this
abbrev pub audit_stop : RecordsFault → CommandFault
audit_stop records.TooLong = stop.LogTooLong MAX_CAPACITY
audit_stop fault = stop.Records fault

-- the log was audited, and the options let the outcome pass
abbrev pub IsAuditPassed : AuditOptions → List LogQuestion → (input before after : Option (List ℕ)) → Type 0
IsAuditPassed options asked input before after = (found : Outcome) × LetPass options found × IsAuditedBy options asked input before after found

-- the input is no log, and the output got the row that says why
abbrev pub IsFoundBad : AuditOptions → List LogQuestion → (input before after : Option (List ℕ)) → Type 0
IsFoundBad options asked input before after = IsAuditedBy options asked input before after outcome.BadLog

-- the log is broken, which the options don't let pass, and the output got what is told of it
abbrev pub IsFoundBroken : AuditOptions → List LogQuestion → (input before after : Option (List ℕ)) → Type 0
IsFoundBroken options asked input before after =
    (options.strict ≡ true) × ((over : Bool) × IsAuditedBy options asked input before after (outcome.Broken over))

-- the log is over the limit, and not broken too if the options are strict, and the output got what is told of it
abbrev pub IsFoundOver : AuditOptions → List LogQuestion → (input before after : Option (List ℕ)) → Type 0
IsFoundOver options asked input before after =
    IsAuditedBy options asked input before after outcome.OverLimit
    ⊎ ((options.strict ≡ false) × IsAuditedBy options asked input before after (outcome.Broken true))

-- the note on a log of so many events: it is there if there are none
abbrev pub log_note : (events : ℕ) → Option NoEvents
log_note events = if events == 0 then Some Log else None

-- the input is a log, and this is the note on its events
abbrev pub IsLogNote : AuditOptions → (input : Option (List ℕ)) → Option NoEvents → Type 0
IsLogNote options input note = (events : ℕ) × HasEventCount options.records MAX_CAPACITY input events × (note ≡ log_note events)

-- the log has no event, which strict options don't let pass, and the output got what is told of it
abbrev pub IsFoundEmpty : AuditOptions → List LogQuestion → (input before after : Option (List ℕ)) → Type 0
IsFoundEmpty options asked input before after =
    (options.strict ≡ true) × IsLogNote options input (Some Log) × IsAuditPassed options asked input before after

-- the log was audited but for this fault, of which the answer tells
abbrev pub IsAuditedBut : CommandFault → AuditOptions → List LogQuestion → (input before after : Option (List ℕ)) → Type 0
IsAuditedBut stop.BadLog options asked input before after = IsFoundBad options asked input before after
IsAuditedBut stop.EmptyLog options asked input before after = IsFoundEmpty options asked input before after
IsAuditedBut stop.BrokenStamps options asked input before after = IsFoundBroken options asked input before after
IsAuditedBut stop.OverLimit options asked input before after = IsFoundOver options asked input before after
IsAuditedBut _ options asked input before after = ⊥
