use Rattle.hlc_command_line.proofs.Faults.{if_err}
use Rattle.hlc_log_commands.proofs.FollowingFacts.{hold_alone, holds_alone, if_done, on_done}
use Rattle.hlc_log_commands.proofs.audited_input.audit_input.Goals as goal

pub returns-then-asked-clause-done : goal.returns-then-asked-clause-done
returns-then-asked-clause-done g c = rw c.if-asked.true c.audit_with_further.ensures.done

pub returns-then-asked-clause-noted : goal.returns-then-asked-clause-noted
returns-then-asked-clause-noted g c = rw c.if-asked.true c.audit_with_further.ensures.noted

pub returns-then-asked-clause-told : goal.returns-then-asked-clause-told
returns-then-asked-clause-told g c = rw c.if-asked.true c.audit_with_further.ensures.told

pub returns-clause-done : goal.returns-clause-done
returns-clause-done g c =
    rw c.if-asked.false
    (on_done c.audit_log.result
    (λ done. hold_alone (g.I.Read.remaining c.args.reader) c.args.asked.questions.items c.deref.result.now _ c.deref.ensures.value done) c.audit_log.ensures.done)

pub returns-clause-noted : goal.returns-clause-noted
returns-clause-noted g c =
    rw c.if-asked.false (if_done c.audit_log.result _ _ (λ note noted. holds_alone (g.I.Read.remaining c.args.reader) _ noted) c.audit_log.ensures.noted)

pub returns-clause-told : goal.returns-clause-told
returns-clause-told g c =
    rw c.if-asked.false
    (if_err c.audit_log.result _ _
    (λ fault told answer.
    hold_alone (g.I.Read.remaining c.args.reader) c.args.asked.questions.items c.deref.result.now _ c.deref.ensures.value (told answer)) c.audit_log.ensures.told)
