use Rattle.hlc_command_line.proofs.Faults.{if_err}
use Rattle.hlc_log_commands.proofs.FollowingFacts.{hold_read, holds_read, if_done, on_done}
use Rattle.hlc_log_commands.proofs.audited_input.audit_with_further.Goals as goal

pub returns-clause-done : goal.returns-clause-done
returns-clause-done g c =
    on_done c.audit_log.result
    (λ done.
    hold_read (g.I.Read.remaining c.args.reader) c.deref.result.now c.in_ok-input.input.items c.parts.result.0.now c.deref.ensures.value
    c.in_ok-input.ensures.read c.parts.ensures.log c.parts.result.1.now c.args.questions.items c.deref-2.result.now c.add_questions.new.questions.items _
    c.parts.ensures.questions c.deref-2.ensures.value c.in_ok-add_questions.ensures.added done) c.audit_log.ensures.done

pub returns-clause-noted : goal.returns-clause-noted
returns-clause-noted g c =
    if_done c.audit_log.result _ _
    (λ note noted.
    holds_read (g.I.Read.remaining c.args.reader) c.deref.result.now c.in_ok-input.input.items c.parts.result.0.now c.deref.ensures.value
    c.in_ok-input.ensures.read c.parts.ensures.log _ noted) c.audit_log.ensures.noted

pub returns-clause-told : goal.returns-clause-told
returns-clause-told g c =
    if_err c.audit_log.result _ _
    (λ fault told answer.
    hold_read (g.I.Read.remaining c.args.reader) c.deref.result.now c.in_ok-input.input.items c.parts.result.0.now c.deref.ensures.value
    c.in_ok-input.ensures.read c.parts.ensures.log c.parts.result.1.now c.args.questions.items c.deref-2.result.now c.add_questions.new.questions.items _
    c.parts.ensures.questions c.deref-2.ensures.value c.in_ok-add_questions.ensures.added (told answer)) c.audit_log.ensures.told
