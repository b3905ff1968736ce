use Rattle.std.proofs.Common.{List, Option, ℕ, subst}
use Rattle.std.specs.Prelude.{IfErr, IfOk}
use Rattle.std.proofs.lemmas.Result.{MatchResult-from_both}
use Rattle.hlc_stamp.specs.declared.limits.TheConstants.{MAX_CAPACITY}
use Rattle.hlc_log_audit.specs.Audit.{StopsAudit}
use Rattle.hlc_log_commands.specs.GroupedAudit.{EndsGroupedAudit}
use Rattle.hlc_log_commands.proofs.audited_log.audit_records.Goals as goal

pub returns-clause-audited : goal.returns-clause-audited
returns-clause-audited g c =
    subst (λ (bytes : Option (List ℕ)). IfOk c.audit_opening_grouped.result
    (EndsGroupedAudit c.args.rules c.args.told c.args.asked.now bytes (g.O.Write.contents c.args.writer.now) (g.O.Write.contents c.audit_opening_grouped.new.writer)))
    c.in-Ok.ensures (c.audit_opening_grouped.ensures.audited _
    (MatchResult-from_both c.open_log-opening.result _ _ c.open_log-opening.ensures.opened c.open_log-opening.ensures.fault))

pub returns-clause-stopped : goal.returns-clause-stopped
returns-clause-stopped g c =
    subst (λ (bytes : Option (List ℕ)). IfErr c.audit_opening_grouped.result
    (StopsAudit c.args.rules.records MAX_CAPACITY bytes c.args.writer.now c.audit_opening_grouped.new.writer)) c.in-Ok.ensures
    (c.audit_opening_grouped.ensures.stopped _
    (MatchResult-from_both c.open_log-opening.result _ _ c.open_log-opening.ensures.opened c.open_log-opening.ensures.fault))
