use Rattle.std.proofs.Common.{◌≡◌, Err, Ok, Result, rules, subst, sym}
use Rattle.std.specs.Prelude.{IfErr, IfOk, OnOk}
use Rattle.hlc_stamp.specs.declared.limits.TheConstants.{MAX_CAPACITY}
use Rattle.hlc_log_audit.specs.declared.outcome.Outcome.{Outcome}
use Rattle.hlc_log_audit.specs.declared.outcome.Outcome.TheVariants.{BadLog}
use Rattle.hlc_command_line.specs.declared.command_fault.CommandFault.{CommandFault}
use Rattle.hlc_command_line.specs.CommandFault.{IsOfInput}
use Rattle.hlc_command_line.specs.declared.line_order.AuditOptions.{AuditOptions}
use Rattle.hlc_log_commands.specs.Audited.{IsAuditedBut, LetPass}
use Rattle.hlc_log_commands.specs.Records.{IsLengthTold, records_in}
use Rattle.hlc_log_commands.proofs.audited_log.audit_log.Goals as goal

on_ok : {T E P : Type 0} (r : Result T E) → P → OnOk r P
on_ok (Ok v) holds = holds
on_ok (Err e) holds = tt

if_ok : {T E : Type 0} {P Q : T → Type 0} (r : Result T E) → ((v : T) → P v → Q v) → IfOk r P → IfOk r Q
if_ok (Ok v) step holds = step v holds
if_ok (Err e) step holds = tt

if_err : {T E : Type 0} {P Q : E → Type 0} (r : Result T E) → ((e : E) → P e → Q e) → IfErr r P → IfErr r Q
if_err (Ok v) step holds = tt
if_err (Err e) step holds = step e holds

-- a log that passes is no bad one
not_bad : (options : AuditOptions) (o : Outcome) → LetPass options o → ¬ (o ≡ BadLog)
not_bad options o passes is = subst (LetPass options) is passes

pub returns-in-Broken-false-clause-done : goal.returns-in-Broken-false-clause-done
returns-in-Broken-false-clause-done g c =
    let found = c.in-Ok.audited.outcome in
    let passes : LetPass c.args.options found = search rules in
    on_ok c.note_on.result (found, passes, c.in-Ok.ensures.audited)

pub returns-in-Broken-false-clause-noted : goal.returns-in-Broken-false-clause-noted
returns-in-Broken-false-clause-noted g c =
    let found = c.in-Ok.audited.outcome in
    let passes : LetPass c.args.options found = search rules in
    if_ok c.note_on.result (λ note is. (c.in-Ok.audited.events, c.in-Ok.ensures.counted (not_bad c.args.options found passes), is)) c.note_on.ensures.noted

pub returns-in-Broken-false-clause-told : goal.returns-in-Broken-false-clause-told
returns-in-Broken-false-clause-told g c =
    let found = c.in-Ok.audited.outcome in
    let passes : LetPass c.args.options found = search rules in
    let counted = c.in-Ok.ensures.counted (not_bad c.args.options found passes) in
    if_err c.note_on.result (λ fault empty answer.
    subst (λ (stop : CommandFault). IsAuditedBut stop c.args.options c.args.asked.now (records_in c.args.json (g.I.Read.remaining c.args.reader))
    (g.O.Write.contents c.args.writer.now) (g.O.Write.contents c.audit_by.new.writer)) (sym empty.0)
    (empty.1, (c.in-Ok.audited.events, counted, sym empty.2), (found, passes, c.in-Ok.ensures.audited))) c.note_on.ensures.empty

-- that it has no events is no fault of the input
pub returns-in-Broken-false-clause-unread : goal.returns-in-Broken-false-clause-unread
returns-in-Broken-false-clause-unread g c =
    if_err c.note_on.result (λ fault empty input. absurd (subst IsOfInput empty.0 input)) c.note_on.ensures.empty

pub returns-in-Broken-false-clause-too_long : goal.returns-in-Broken-false-clause-too_long
returns-in-Broken-false-clause-too_long g c =
    if_err c.note_on.result (λ fault empty.
    subst (IsLengthTold MAX_CAPACITY c.args.options.records (records_in c.args.json (g.I.Read.remaining c.args.reader))) (sym empty.0) tt) c.note_on.ensures.empty
