use Rattle.std.proofs.Common.{◌≡◌, ℕ, arith, length, subst}
use Rattle.std.proofs.lemmas.Result.{on_ok_weaker}
use Rattle.hlc_csv.proofs.RowFacts.{appends-handed_out, appends-none}
use Rattle.hlc_history_log.specs.LogRows.{log_row}
use Rattle.hlc_history_log.proofs.RowsAdded.{HasWritten, has_written-more}
use Rattle.hlc_history_log.proofs.log.write_log.Goals as goal

pub loop-event-init : goal.loop-event-init
loop-event-init g c = rw c.new-rows.ensures (appends-none (g.W.Write.contents c.args.writer.now))

pub loop-event-preserved : goal.loop-event-preserved
loop-event-preserved g c =
    has_written-more (log_row c.args.history.now.events) c.loop-event.event _ _ _ _ _ c.loop-event.invariant c.in_ok-push_event.ensures

pub returns : goal.returns
returns g c =
    let at = g.W.Write.contents in
    let all : c.loop-event.event ≡ length c.args.history.now.events = omega (arith, c.len-event-end.ensures.value) in
    let written = subst (λ (n : ℕ). HasWritten (log_row c.args.history.now.events) n (at c.args.writer.now) (at c.loop-event.writer) c.loop-event.rows) all
    c.loop-event.invariant in
    on_ok_weaker c.finish.result (appends-handed_out _ _ _ _ _ written) c.finish.ensures
