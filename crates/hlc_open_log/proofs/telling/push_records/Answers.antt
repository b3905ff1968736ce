use Rattle.std.proofs.Common.{arith}
use Rattle.hlc_open_log.specs.Unopened.{bad_record_row}
use Rattle.hlc_open_log.proofs.RowsTold.{row_more}
use Rattle.hlc_open_log.proofs.telling.push_records.Goals as goal

pub loop-record-preserved : goal.loop-record-preserved
loop-record-preserved g c =
    row_more _ _ _ _ _ _ bad_record_row c.args.bad.now c.loop-record.record-index c.record-item.result (omega arith) c.record-item.is c.loop-record.invariant
    c.in_ok-push_record.ensures
