use Rattle.std.proofs.Common.{◌≡◌, List, Option, Some, [], ℕ, subst, sym}
use Rattle.std.specs.Prelude.{IsErrOf}
use Rattle.std.proofs.lemmas.Result.{IfOk-weaker}
use Rattle.std.specs.Io.KnownBytes.{Appends}
use Rattle.hlc_stamp.specs.declared.limits.TheConstants.{MAX_CAPACITY}
use Rattle.hlc_log_text.specs.declared.question.LogQuestion.{LogQuestion}
use Rattle.hlc_csv.specs.declared.records_fault.RecordsFault.TheVariants.{TooLong}
use Rattle.hlc_log_text.specs.ReadLog.{HasTooMany}
use Rattle.hlc_log_audit.specs.Audit.{TellsEvents}
use Rattle.hlc_log_audit.specs.declared.outcome.Outcome.{Outcome}
use Rattle.hlc_log_audit.specs.declared.rules.AuditRules.{AuditRules}
use Rattle.hlc_log_groups.specs.declared.group_detail.GroupDetail.{GroupDetail}
use Rattle.hlc_audit_forms.specs.AuditText.{IsTextOf}
use Rattle.hlc_audit_forms.specs.JsonRows.{IsJsonOf}
use Rattle.hlc_command_line.specs.declared.line_order.AuditOptions.{AuditOptions}
use Rattle.hlc_command_line.specs.declared.line_order.OutputForm.{OutputForm}
use Rattle.hlc_log_commands.specs.Audited.{IsAuditIn, IsToldAudit, rules_of, told_of}
use Rattle.hlc_log_commands.specs.GroupedAudit.{IsGroupedAudit}
use Rattle.hlc_log_commands.specs.Records.{records_in}
use Rattle.hlc_log_commands.proofs.StoppedAudits.{stopped_empty, stopped_long, stopped_read}
use Rattle.hlc_log_commands.proofs.audited_log.audit_by.Goals as goal

-- the rows of an audit by some options, told in another form
left_told : (IsTold : List ℕ → List ℕ → Type 0) (options : AuditOptions) (rules : AuditRules) (told : GroupDetail) (asked : List LogQuestion)
    (input before after : Option (List ℕ)) (found : Outcome) (rows shown text : List ℕ) → rules ≡ rules_of options → told ≡ told_of options
    → IsGroupedAudit rules told asked input (Some []) (Some rows) found → shown ≡ rows → IsTold shown text → Appends before after text
    → IsToldAudit IsTold (rules_of options) (told_of options) asked input before after found
left_told IsTold options rules told asked input before after found rows shown text by so left same is written = record {
  rows = rows;
  audited =
      subst (λ (rules : AuditRules). IsGroupedAudit rules (told_of options) asked input (Some []) (Some rows) found) by
      (subst (λ (told : GroupDetail). IsGroupedAudit rules told asked input (Some []) (Some rows) found) so left);
  text = text;
  is_told = subst (λ (rows : List ℕ). IsTold rows text) same is;
  written = written;
}

pub returns-in_ok-write_json-in-Json-clause-audited : goal.returns-in_ok-write_json-in-Json-clause-audited
returns-in_ok-write_json-in-Json-clause-audited g c =
    let options = c.args.options in
    let input = records_in c.args.json (g.I.Read.remaining c.args.reader) in
    let before = g.O.Write.contents c.args.writer.now in
    let after = g.O.Write.contents c.write_json.new.writer in
    let left = c.in_ok-audited-in-Json in
    let told = c.in_ok-write_json-in-Json.ensures in
    subst (λ (form : OutputForm). IsAuditIn form (rules_of options) (told_of options) c.args.asked.now input before after left.audited.outcome) (sym c.in-Json.is)
    (left_told IsJsonOf options c.rules_of-rules.result c.told_of-told.result c.args.asked.now input before after left.audited.outcome left.rows.items
    c.deref.result.now told.0 c.rules_of-rules.ensures c.told_of-told.ensures left.ensures.audited.0 c.deref.ensures.value told.1 told.2)

pub returns-in_ok-write_json-in-Json-clause-counted : goal.returns-in_ok-write_json-in-Json-clause-counted
returns-in_ok-write_json-in-Json-clause-counted g c =
    subst (λ (rules : AuditRules).
    TellsEvents rules.records MAX_CAPACITY (records_in c.args.json (g.I.Read.remaining c.args.reader)) c.in_ok-audited-in-Json.audited)
    c.rules_of-rules.ensures c.in_ok-audited-in-Json.ensures.audited.1

pub returns-in_ok-write_text-in-Text-clause-audited : goal.returns-in_ok-write_text-in-Text-clause-audited
returns-in_ok-write_text-in-Text-clause-audited g c =
    let options = c.args.options in
    let input = records_in c.args.json (g.I.Read.remaining c.args.reader) in
    let before = g.O.Write.contents c.args.writer.now in
    let after = g.O.Write.contents c.write_text.new.writer in
    let left = c.in_ok-audited-in-Text in
    let told = c.in_ok-write_text-in-Text.ensures in
    subst (λ (form : OutputForm). IsAuditIn form (rules_of options) (told_of options) c.args.asked.now input before after left.audited.outcome) (sym c.in-Text.is)
    (left_told IsTextOf options c.rules_of-rules.result c.told_of-told.result c.args.asked.now input before after left.audited.outcome left.rows.items
    c.deref-in-Text.result.now told.0 c.rules_of-rules.ensures c.told_of-told.ensures left.ensures.audited.0 c.deref-in-Text.ensures.value told.1 told.2)

pub returns-in_ok-write_text-in-Text-clause-counted : goal.returns-in_ok-write_text-in-Text-clause-counted
returns-in_ok-write_text-in-Text-clause-counted g c =
    subst (λ (rules : AuditRules).
    TellsEvents rules.records MAX_CAPACITY (records_in c.args.json (g.I.Read.remaining c.args.reader)) c.in_ok-audited-in-Text.audited)
    c.rules_of-rules.ensures c.in_ok-audited-in-Text.ensures.audited.1

pub returns-in-Csv-clause-audited : goal.returns-in-Csv-clause-audited
returns-in-Csv-clause-audited g c =
    let options = c.args.options in
    let input = records_in c.args.json (g.I.Read.remaining c.args.reader) in
    let before = g.O.Write.contents c.args.writer.now in
    let after = g.O.Write.contents c.audit_records.new.writer in
    IfOk-weaker c.audit_records.result _ _ (λ audited ends.
    subst (λ (form : OutputForm). IsAuditIn form (rules_of options) (told_of options) c.args.asked.now input before after audited.outcome) (sym c.in-Csv.is)
    (subst (λ (rules : AuditRules). IsGroupedAudit rules (told_of options) c.args.asked.now input before after audited.outcome) c.rules_of-rules.ensures
    (subst (λ (told : GroupDetail). IsGroupedAudit c.rules_of-rules.result told c.args.asked.now input before after audited.outcome) c.told_of-told.ensures
    ends.0))) c.audit_records.ensures.audited

pub returns-in-Csv-clause-counted : goal.returns-in-Csv-clause-counted
returns-in-Csv-clause-counted g c =
    IfOk-weaker c.audit_records.result _ _ (λ audited ends.
    subst (λ (rules : AuditRules). TellsEvents rules.records MAX_CAPACITY (records_in c.args.json (g.I.Read.remaining c.args.reader)) audited)
    c.rules_of-rules.ensures ends.1) c.audit_records.ensures.audited

pub returns-in-Csv-clause-read : goal.returns-in-Csv-clause-read
returns-in-Csv-clause-read g c = stopped_read _ _ _ _ c.audit_records.result c.audit_records.ensures.stopped

pub returns-in-Csv-clause-too_long : goal.returns-in-Csv-clause-too_long
returns-in-Csv-clause-too_long g c =
    subst (λ (rules : AuditRules).
    IsErrOf c.audit_records.result TooLong → HasTooMany rules.records MAX_CAPACITY (records_in c.args.json (g.I.Read.remaining c.args.reader)))
    c.rules_of-rules.ensures (stopped_long _ _ _ _ c.audit_records.result c.audit_records.ensures.stopped)

pub returns-in-Csv-clause-nothing : goal.returns-in-Csv-clause-nothing
returns-in-Csv-clause-nothing g c = stopped_empty _ _ _ _ c.audit_records.result c.audit_records.ensures.stopped
