use Rattle.std.proofs.Common.{arith, inl, inr, refl}
use Rattle.hlc_command_line.specs.declared.command_fault.CommandFault.TheVariants as stop
use Rattle.hlc_log_commands.specs.DrawnLog.{IsLogDrawnBut, IsLogDrawnWhole}
use Rattle.hlc_page.proofs.LogAnswers.{drawing_is, too_long_is}
use Rattle.hlc_page.proofs.Statuses.{status_of_answer}
use Rattle.hlc_page.proofs.draw_log_around.hlc_page_draw_log_around.Goals as goal

pub returns-in-Ok-draw_log-clause-status : goal.returns-in-Ok-draw_log-clause-status
returns-in-Ok-draw_log-clause-status c =
    let put = c.put.ensures in
    let options = c.drawing_around-options in
    let answer = c.deref in
    let drawn =
    drawing_is _ c.in-Ok.json c.in-Ok.ensures.found _ answer.result.now c.new-picture.ensures.items (IsLogDrawnWhole) _ options.result options.ensures
    (rw answer.ensures.value c.in-Ok-draw_log.ensures.done) in
    status_of_answer _ _ _ answer.result.now _ _ _ _ (inl (refl, drawn)) (inl (omega arith)) put.told put.put put.room put.unchanged

pub returns-in-Err-NoEvent-clause-status : goal.returns-in-Err-NoEvent-clause-status
returns-in-Err-NoEvent-clause-status c =
    let put = c.put-in-Err-NoEvent.ensures in
    let options = c.drawing_around-options in
    let answer = c.deref-in-Err-NoEvent in
    let drawn =
    drawing_is _ c.in-Ok.json c.in-Ok.ensures.found _ answer.result.now c.new-picture.ensures.items (IsLogDrawnBut stop.NoEvent) _ options.result options.ensures
    (rw answer.ensures.value (rw c.in-Err-NoEvent.field-0-is at c.in-Err-NoEvent.ensures.told tt)) in
    status_of_answer _ _ _ answer.result.now _ _ _ _ (inr (inl (refl, drawn))) (inl (omega arith)) put.told put.put put.room put.unchanged

pub returns-in-Err-BadLog-clause-status : goal.returns-in-Err-BadLog-clause-status
returns-in-Err-BadLog-clause-status c =
    let put = c.put-in-Err-BadLog.ensures in
    let options = c.drawing_around-options in
    let answer = c.deref-in-Err-BadLog in
    let drawn =
    drawing_is _ c.in-Ok.json c.in-Ok.ensures.found _ answer.result.now c.new-picture.ensures.items (IsLogDrawnBut stop.BadLog) _ options.result options.ensures
    (rw answer.ensures.value (rw c.in-Err-BadLog.field-0-is at c.in-Err-BadLog.ensures.told tt)) in
    status_of_answer _ _ _ answer.result.now _ _ _ _ (inr (inr (refl, drawn))) (inl (omega arith)) put.told put.put put.room put.unchanged

pub returns-in-Err-LogTooLong-clause-too_long : goal.returns-in-Err-LogTooLong-clause-too_long
returns-in-Err-LogTooLong-clause-too_long c is =
    let options = c.drawing_around-options in
    too_long_is _ c.in-Ok.json options.result.records c.in-Ok.ensures.found options.ensures.records_are
    (rw c.in-Err-LogTooLong.field-0-is at c.in-Err-LogTooLong.ensures.too_long).1
