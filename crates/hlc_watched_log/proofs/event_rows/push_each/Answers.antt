use Rattle.std.proofs.Common.{arith}
use Rattle.hlc_watched_log.specs.CauseRows.{cause_rows}
use Rattle.hlc_log_text.proofs.RowsAdded.{adds_none}
use Rattle.hlc_watched_log.proofs.RowsAdded.{adds_more}
use Rattle.hlc_watched_log.proofs.event_rows.push_each.Goals as goal

pub loop-records-init : goal.loop-records-init
loop-records-init g c = adds_none (g.W.Write.contents c.args.writer.now) c.args.rows.now

pub loop-records-preserved : goal.loop-records-preserved
loop-records-preserved g c =
    adds_more _ _ _ _ _ _ (cause_rows c.args.names.now c.args.full) c.args.complete.now c.loop-records.records-index _ (omega arith) c.loop-records.invariant
    c.in_ok-push_causes.ensures
