use Rattle.std.proofs.lemmas.Result.{IfErr-weaker, IfOk-weaker}
use Rattle.hlc_stamp.specs.declared.limits.TheConstants.{MAX_CAPACITY}
use Rattle.hlc_log_audit.proofs.Telling.{stops_with}
use Rattle.hlc_log_commands.proofs.GroupedAudits.{bad_ends_grouped, opened_ends_grouped}
use Rattle.hlc_log_commands.proofs.grouped_audit.audit_opening_grouped.Goals as goal

pub returns-in_ok-audit_opened_grouped-in-Ok-clause-audited : goal.returns-in_ok-audit_opened_grouped-in-Ok-clause-audited
returns-in_ok-audit_opened_grouped-in-Ok-clause-audited g c = λ bytes opening.
    let is = rw c.in-Ok.is at opening in
    let told = c.in_ok-audit_opened_grouped-in-Ok.ensures in
    opened_ends_grouped c.args.rules c.args.told c.args.asked.now bytes _ _ _ _ is told.told told.counted

pub returns-in-Err-clause-audited : goal.returns-in-Err-clause-audited
returns-in-Err-clause-audited g c = λ bytes opening.
    let explained = rw c.in-Err.is at opening in
    IfOk-weaker c.audit_unopened.result _ _
    (λ audited told. bad_ends_grouped c.args.rules c.args.told c.args.asked.now bytes _ _ _ audited explained told) c.audit_unopened.ensures.told

pub returns-in-Err-clause-stopped : goal.returns-in-Err-clause-stopped
returns-in-Err-clause-stopped g c = λ bytes opening.
    let explained = rw c.in-Err.is at opening in
    IfErr-weaker c.audit_unopened.result _ _
    (λ why stops. stops_with c.args.rules.records MAX_CAPACITY bytes _ _ _ explained why stops) c.audit_unopened.ensures.stopped
