use Rattle.std.proofs.Common.{◌+◌, arith, refl, subst, sym}
use Rattle.hlc_log_picture.specs.StampOrder.{AreRows}
use Rattle.hlc_log_picture.proofs.StampOrders.{rows_push}
use Rattle.hlc_log_picture.proofs.stamp_order.rows.Goals as goal

pub loop-place-init : goal.loop-place-init
loop-place-init c =
    subst (AreRows c.args.log.now 0) (sym c.in_ok-rows.ensures.items) (record { one_each = refl; each = λ k lt. absurd (omega arith) })

pub loop-place-preserved : goal.loop-place-preserved
loop-place-preserved c =
    let next = rows_push c.args.log.now c.loop-place.place c.loop-place.rows.items c.ranked_row.result c.loop-place.invariant c.ranked_row.ensures in
    subst (AreRows c.args.log.now (c.loop-place.place + 1)) (sym c.in_ok-push.ensures.items) next
