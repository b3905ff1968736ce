use Rattle.std.proofs.Common.{◌∙◌, ap, length, subst}
use Rattle.hlc_ordered_log.specs.InOrder.{LogInOrder}
use Rattle.hlc_log_audit.specs.Audit.{IsOutcome}
use Rattle.hlc_log_audit.proofs.audit.audit_opened.Goals as goal

pub returns-clause-told : goal.returns-clause-told
returns-clause-told g c =
    let told = c.in_ok-tell_log.ensures in
    (told.0, told.1, told.2, subst (λ (log : LogInOrder). IsOutcome c.args.rules log c.outcome.result) c.ordered-2.ensures.value c.outcome.ensures)

pub returns-clause-counted : goal.returns-clause-counted
returns-clause-counted g c = c.len.ensures.value ∙ ap (λ (log : LogInOrder). length log.events) c.ordered-3.ensures.value
