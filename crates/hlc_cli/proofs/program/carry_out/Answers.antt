use Rattle.hlc_command_line.proofs.Faults.{if_err, if_err_is}
use Rattle.hlc_cli.proofs.Notes.{err_unnoted, has_no_note, ok_unnoted}
use Rattle.hlc_cli.proofs.program.carry_out.Goals as goal

pub returns-in-Run-clause-done : goal.returns-in-Run-clause-done
returns-in-Run-clause-done g c =
    rw c.in-Run.is (ok_unnoted c.run_script.result _ _ c.unnoted.ensures c.run_script.ensures.done)

pub returns-in-Run-clause-noted : goal.returns-in-Run-clause-noted
returns-in-Run-clause-noted g c =
    rw c.in-Run.is (has_no_note c.run_script.result _ c.unnoted.ensures)

pub returns-in-Run-clause-told : goal.returns-in-Run-clause-told
returns-in-Run-clause-told g c =
    err_unnoted c.run_script.result _ _ _ (λ fault untold told. absurd (untold told)) c.unnoted.ensures c.run_script.ensures.untold

pub returns-in-Run-clause-unread : goal.returns-in-Run-clause-unread
returns-in-Run-clause-unread g c =
    err_unnoted c.run_script.result _ _ _
    (λ fault untold input reads. absurd (rw c.in-Run.is at reads)) c.unnoted.ensures c.run_script.ensures.untold

pub returns-in_err-judge_run-in-Judge-clause-told : goal.returns-in_err-judge_run-in-Judge-clause-told
returns-in_err-judge_run-in-Judge-clause-told g c =
    if_err_is c.from_residual.result _ _ c.from_residual.ensures.1 (λ told. absurd told)

pub returns-in-Trace-clause-done : goal.returns-in-Trace-clause-done
returns-in-Trace-clause-done g c =
    rw c.in-Trace.is c.trace_script.ensures.done

pub returns-in-Trace-clause-told : goal.returns-in-Trace-clause-told
returns-in-Trace-clause-told g c =
    if_err c.trace_script.result _ _ (λ fault untold told. absurd (untold told)) c.trace_script.ensures.untold

pub returns-in-Trace-clause-noted : goal.returns-in-Trace-clause-noted
returns-in-Trace-clause-noted g c =
    rw c.in-Trace.is c.trace_script.ensures.noted

pub returns-in-Trace-clause-unread : goal.returns-in-Trace-clause-unread
returns-in-Trace-clause-unread g c =
    if_err c.trace_script.result _ _ (λ fault unread input reads. unread input) c.trace_script.ensures.unread

pub returns-in-Audit-clause-done : goal.returns-in-Audit-clause-done
returns-in-Audit-clause-done g c =
    rw c.in-Audit.is c.audit_input.ensures.done

pub returns-in-Audit-clause-noted : goal.returns-in-Audit-clause-noted
returns-in-Audit-clause-noted g c =
    rw c.in-Audit.is c.audit_input.ensures.noted

pub returns-in-Audit-clause-told : goal.returns-in-Audit-clause-told
returns-in-Audit-clause-told g c =
    rw c.in-Audit.is c.audit_input.ensures.told

pub returns-in-Audit-clause-unread : goal.returns-in-Audit-clause-unread
returns-in-Audit-clause-unread g c =
    if_err c.audit_input.result _ _ (λ fault unread input reads. unread input) c.audit_input.ensures.unread

pub returns-in-Watch-clause-done : goal.returns-in-Watch-clause-done
returns-in-Watch-clause-done g c =
    rw c.in-Watch.is c.watch_log.ensures.done

pub returns-in-Watch-clause-noted : goal.returns-in-Watch-clause-noted
returns-in-Watch-clause-noted g c =
    rw c.in-Watch.is c.watch_log.ensures.noted

pub returns-in-Watch-clause-told : goal.returns-in-Watch-clause-told
returns-in-Watch-clause-told g c =
    rw c.in-Watch.is c.watch_log.ensures.told

pub returns-in-Watch-clause-unread : goal.returns-in-Watch-clause-unread
returns-in-Watch-clause-unread g c =
    if_err c.watch_log.result _ _ (λ fault told input reads. absurd (rw c.in-Watch.is at reads)) c.watch_log.ensures.told

pub returns-in-DrawLog-clause-done : goal.returns-in-DrawLog-clause-done
returns-in-DrawLog-clause-done g c =
    rw c.in-DrawLog.is (ok_unnoted c.draw_log.result _ _ c.unnoted-in-DrawLog.ensures c.draw_log.ensures.done)

pub returns-in-DrawLog-clause-noted : goal.returns-in-DrawLog-clause-noted
returns-in-DrawLog-clause-noted g c =
    rw c.in-DrawLog.is (has_no_note c.draw_log.result _ c.unnoted-in-DrawLog.ensures)

pub returns-in-DrawLog-clause-told : goal.returns-in-DrawLog-clause-told
returns-in-DrawLog-clause-told g c =
    rw c.in-DrawLog.is (err_unnoted c.draw_log.result _ _ _ (λ fault told. told) c.unnoted-in-DrawLog.ensures c.draw_log.ensures.told)

pub returns-in-DrawLog-clause-unread : goal.returns-in-DrawLog-clause-unread
returns-in-DrawLog-clause-unread g c =
    err_unnoted c.draw_log.result _ _ _ (λ fault unread input reads. unread input) c.unnoted-in-DrawLog.ensures c.draw_log.ensures.unread

pub returns-in-Vectors-clause-done : goal.returns-in-Vectors-clause-done
returns-in-Vectors-clause-done g c =
    rw c.in-Vectors.is (ok_unnoted c.vectors_of_log.result _ _ c.unnoted-in-Vectors.ensures c.vectors_of_log.ensures.done)

pub returns-in-Vectors-clause-noted : goal.returns-in-Vectors-clause-noted
returns-in-Vectors-clause-noted g c =
    rw c.in-Vectors.is (has_no_note c.vectors_of_log.result _ c.unnoted-in-Vectors.ensures)

pub returns-in-Vectors-clause-told : goal.returns-in-Vectors-clause-told
returns-in-Vectors-clause-told g c =
    rw c.in-Vectors.is (err_unnoted c.vectors_of_log.result _ _ _ (λ fault told. told) c.unnoted-in-Vectors.ensures c.vectors_of_log.ensures.told)

pub returns-in-Vectors-clause-unread : goal.returns-in-Vectors-clause-unread
returns-in-Vectors-clause-unread g c =
    err_unnoted c.vectors_of_log.result _ _ _ (λ fault unread input reads. unread input) c.unnoted-in-Vectors.ensures c.vectors_of_log.ensures.unread

pub returns-in-Storm-clause-done : goal.returns-in-Storm-clause-done
returns-in-Storm-clause-done g c =
    rw c.in-Storm.is (ok_unnoted c.print_storm.result _ _ c.unnoted-in-Storm.ensures c.print_storm.ensures.done)

pub returns-in-Storm-clause-noted : goal.returns-in-Storm-clause-noted
returns-in-Storm-clause-noted g c =
    rw c.in-Storm.is (has_no_note c.print_storm.result _ c.unnoted-in-Storm.ensures)

pub returns-in-Storm-clause-told : goal.returns-in-Storm-clause-told
returns-in-Storm-clause-told g c =
    err_unnoted c.print_storm.result _ _ _ (λ fault untold told. absurd (untold told)) c.unnoted-in-Storm.ensures c.print_storm.ensures.untold

pub returns-in-Storm-clause-unread : goal.returns-in-Storm-clause-unread
returns-in-Storm-clause-unread g c =
    err_unnoted c.print_storm.result _ _ _
    (λ fault untold input reads. absurd (rw c.in-Storm.is at reads)) c.unnoted-in-Storm.ensures c.print_storm.ensures.untold

pub returns-in-Threads-clause-done : goal.returns-in-Threads-clause-done
returns-in-Threads-clause-done g c =
    rw c.in-Threads.is (ok_unnoted c.play.result _ _ c.unnoted-in-Threads.ensures c.play.ensures.done)

pub returns-in-Threads-clause-noted : goal.returns-in-Threads-clause-noted
returns-in-Threads-clause-noted g c =
    rw c.in-Threads.is (has_no_note c.play.result _ c.unnoted-in-Threads.ensures)

pub returns-in-Threads-clause-told : goal.returns-in-Threads-clause-told
returns-in-Threads-clause-told g c =
    err_unnoted c.play.result _ _ _ (λ fault untold told. absurd (untold told)) c.unnoted-in-Threads.ensures c.play.ensures.untold

pub returns-in-Threads-clause-unread : goal.returns-in-Threads-clause-unread
returns-in-Threads-clause-unread g c =
    err_unnoted c.play.result _ _ _
    (λ fault untold input reads. absurd (rw c.in-Threads.is at reads)) c.unnoted-in-Threads.ensures c.play.ensures.untold
