use Rattle.std.proofs.Common.{arith, inl, inr, refl}
use Rattle.hlc_page.proofs.LogAnswers.{no_log_is_told, too_long_is, vectors_are}
use Rattle.hlc_page.proofs.Statuses.{status_of_answer}
use Rattle.hlc_page.proofs.vectors.hlc_page_vectors.Goals as goal

pub returns-in-Ok-vectors_of_log-clause-status : goal.returns-in-Ok-vectors_of_log-clause-status
returns-in-Ok-vectors_of_log-clause-status c =
    let put = c.put.ensures in
    let read = c.records-records in
    let written =
    vectors_are _ c.in-Ok.json c.in-Ok.ensures.found _ c.deref.result.now c.new-events.ensures.items read.result read.ensures
    (rw c.deref.ensures.value c.in-Ok-vectors_of_log.ensures.done) in
    status_of_answer _ _ _ c.deref.result.now _ _ _ _ (inl (refl, written)) (inl (omega arith)) put.told put.put put.room put.unchanged

pub returns-in-Err-BadLog-clause-status : goal.returns-in-Err-BadLog-clause-status
returns-in-Err-BadLog-clause-status c =
    let put = c.put-in-Err-BadLog.ensures in
    let read = c.records-records in
    let answer = c.deref-in-Err-BadLog in
    let told =
    no_log_is_told _ c.in-Ok.json c.in-Ok.ensures.found _ answer.result.now c.new-events.ensures.items read.result read.ensures
    (rw answer.ensures.value (rw c.in-Err-BadLog.field-0-is at c.in-Err-BadLog.ensures.told tt)) in
    status_of_answer _ _ _ answer.result.now _ _ _ _ (inr (refl, told)) (inl (omega arith)) put.told put.put put.room put.unchanged

pub returns-in-Err-LogTooLong-clause-too_long : goal.returns-in-Err-LogTooLong-clause-too_long
returns-in-Err-LogTooLong-clause-too_long c is =
    let read = c.records-records in
    too_long_is _ c.in-Ok.json read.result c.in-Ok.ensures.found read.ensures (rw c.in-Err-LogTooLong.field-0-is at c.in-Err-LogTooLong.ensures.too_long).1
