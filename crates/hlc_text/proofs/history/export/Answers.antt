use Rattle.std.proofs.Common.{◌<◌, ◌≤◌, arith, length}
use Rattle.std.proofs.lemmas.Result.{err_from_is_err_and, on_ok_weaker}
use Rattle.hlc_text.proofs.ExportFacts.{has_exported-all, has_exported-more, has_exported-none}
use Rattle.hlc_text.proofs.history.export.Goals as goal

pub loop-event-init : goal.loop-event-init
loop-event-init g c = rw c.new-rows.ensures (has_exported-none c.args.history.now.events (g.W.Write.contents c.args.writer.now))

pub loop-event-preserved : goal.loop-event-preserved
loop-event-preserved g c =
    let within : c.loop-event.event < length c.args.history.now.events = omega arith in
    has_exported-more _ _ _ _ _ _ _ within c.loop-event.invariant c.in_ok-push_event.ensures

pub returns : goal.returns
returns g c =
    let all : length c.args.history.now.events ≤ c.loop-event.event = omega arith in
    on_ok_weaker c.finish.result (has_exported-all _ _ _ _ _ _ all c.loop-event.invariant) c.finish.ensures

pub returns-in_err-push_event : goal.returns-in_err-push_event
returns-in_err-push_event g c = rw (err_from_is_err_and c.from_residual.result c.from_residual.ensures.1).1 tt
