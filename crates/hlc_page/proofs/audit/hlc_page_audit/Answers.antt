use Rattle.std.proofs.Common.{List, subst, sym}
use Rattle.hlc_log_text.specs.declared.question.LogQuestion.{LogQuestion}
use Rattle.hlc_command_line.specs.Asked.{AreAsked}
use Rattle.hlc_page.specs.Given.{texts_in}
use Rattle.hlc_page.proofs.LogAnswers.{audit_is}
use Rattle.hlc_page.proofs.Statuses.{status_of_answer}
use Rattle.hlc_page.proofs.audit.hlc_page_audit.Goals as goal

pub returns-in-Ok-audit_by-clause-status : goal.returns-in-Ok-audit_by-clause-status
returns-in-Ok-audit_by-clause-status c =
    let put = c.put.ensures in
    let found = c.outcome_status.ensures in
    let answer = c.deref-in-Ok-audit_by in
    let options = c.auditing-options.ensures in
    let asked =
    subst (λ (questions : List LogQuestion). AreAsked (texts_in c.args.asked.now) questions) (sym c.deref.ensures.value) c.in-Ok-asked_questions.ensures.asked in
    let audit =
    audit_is _ c.in-Ok.json c.in-Ok.ensures.found _ answer.result.now c.new-found.ensures.items _ _ _ _ _ c.in-Ok-audit_by.audited.outcome c.auditing-options.result
    c.deref.result.now options asked (rw answer.ensures.value c.in-Ok-audit_by.ensures.audited) in
    status_of_answer _ _ _ answer.result.now _ _ _ _ (c.in-Ok-audit_by.audited.outcome, found.value, audit) found.answered put.told put.put put.room put.unchanged
