use Rattle.std.proofs.Common.{◌∙◌, List, ap}
use Rattle.hlc_command_line.proofs.Faults.{if_err}
use Rattle.hlc_log_text.specs.declared.file_mark.FileMark.{FileMark}
use Rattle.hlc_log_commands.specs.PartLines.{part_in}
use Rattle.hlc_log_commands.proofs.DrawnLogs.{drawn_up_to, never_of_input, on_ok, tells_no_length, told_but}
use Rattle.hlc_log_commands.proofs.drawn_log.draw_lent.Goals as goal

pub returns-clause-done : goal.returns-clause-done
returns-clause-done g c =
    let part = c.part_in-part.ensures ∙ ap (λ (files : List FileMark). part_in files c.args.options.now.part) c.files.ensures in
    on_ok c.draw_lent_log.result (drawn_up_to c.args.most c.args.options.now _ _ _ _ _ part c.in_ok-log.ensures.opened)
    (rw c.in_ok-log.ensures.nothing at c.draw_lent_log.ensures.done)

pub returns-clause-told : goal.returns-clause-told
returns-clause-told g c =
    let part = c.part_in-part.ensures ∙ ap (λ (files : List FileMark). part_in files c.args.options.now.part) c.files.ensures in
    if_err c.draw_lent_log.result _ _ (λ fault. told_but c.args.most c.args.options.now _ _ _ _ _ fault part c.in_ok-log.ensures.opened)
    (rw c.in_ok-log.ensures.nothing at c.draw_lent_log.ensures.stopped)

pub returns-clause-unread : goal.returns-clause-unread
returns-clause-unread g c =
    if_err c.draw_lent_log.result _ _ (λ fault stopped is. absurd (never_of_input _ _ _ _ fault stopped is)) c.draw_lent_log.ensures.stopped

pub returns-clause-too_long : goal.returns-clause-too_long
returns-clause-too_long g c =
    if_err c.draw_lent_log.result _ _ (λ fault. tells_no_length c.args.most c.args.options.now.records _ _ _ _ _ fault) c.draw_lent_log.ensures.stopped
