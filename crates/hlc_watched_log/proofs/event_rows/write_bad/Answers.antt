use Rattle.std.proofs.lemmas.Result.{on_ok_weaker}
use Rattle.hlc_log_text.proofs.RowsAdded.{appends-from_none}
use Rattle.hlc_watched_log.proofs.event_rows.write_bad.Goals as goal

pub returns : goal.returns
returns g c =
    on_ok_weaker c.finish.result (λ sent. appends-from_none _ _ _ _ _ (rw c.new-rows.ensures at c.in_ok-push_bad.ensures) sent) c.finish.ensures
