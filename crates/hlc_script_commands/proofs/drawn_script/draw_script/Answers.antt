use Rattle.hlc_arena.specs.Arena.{history_of}
use Rattle.hlc_script_commands.proofs.DrawnScripts.{drawn_whole, drawn_without}
use Rattle.hlc_command_line.proofs.Faults.{if_err_is}
use Rattle.hlc_script_commands.proofs.drawn_script.draw_script.Goals as goal

pub returns-in_err-history-clause-told : goal.returns-in_err-history-clause-told
returns-in_err-history-clause-told g c =
    if_err_is c.from_residual.result _ _ c.from_residual.ensures.1 (λ told. absurd (c.in_err-history.ensures.untold told))

pub returns-in_err-draw_part-clause-told : goal.returns-in_err-draw_part-clause-told
returns-in_err-draw_part-clause-told g c =
    let left = c.in_ok-history in
    let gives = c.from_residual-in_err-draw_part in
    if_err_is gives.result _ _ gives.ensures.1
    (λ answer.
    let t = c.in_err-draw_part.ensures.told answer in
    rw t.0
    (drawn_without c.args.settings c.args.part _ _ _ (history_of left.history) left.undelivered.items left.ensures.left
    (rw c.deref.ensures.value at t.1) t.2))

pub returns-clause-done : goal.returns-clause-done
returns-clause-done g c =
    let left = c.in_ok-history in
    let drawn = c.in_ok-draw_part.ensures in
    drawn_whole c.args.settings c.args.part _ _ _ (history_of left.history) left.undelivered.items left.ensures.left
    (rw c.deref.ensures.value at drawn.drawn) drawn.there
