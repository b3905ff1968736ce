use Rattle.std.proofs.lemmas.Result.{err_from_is_err_and}
use Rattle.hlc_log_commands.proofs.DrawnLogs.{stopped_by}
use Rattle.hlc_log_commands.proofs.drawn_log.draw_lent_log.Goals as goal

pub returns-in_err-draw_opened-clause-stopped : goal.returns-in_err-draw_opened-clause-stopped
returns-in_err-draw_opened-clause-stopped g c =
    let from = err_from_is_err_and c.from_residual.result c.from_residual.ensures.1 in
    rw (from.1, from.2) (stopped_by _ _ _ _ c.in_err-draw_opened.field-0.0 c.in_err-draw_opened.ensures.without)
