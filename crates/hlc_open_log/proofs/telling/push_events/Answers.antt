use Rattle.std.proofs.Common.{arith}
use Rattle.hlc_open_log.specs.Unopened.{bad_event_row}
use Rattle.hlc_open_log.proofs.RowsTold.{row_more}
use Rattle.hlc_open_log.proofs.telling.push_events.Goals as goal

pub loop-event-preserved : goal.loop-event-preserved
loop-event-preserved g c =
    row_more _ _ _ _ _ _ bad_event_row c.args.bad.now c.loop-event.event-index c.event-item.result (omega arith) c.event-item.is c.loop-event.invariant
    c.in_ok-push_event.ensures
