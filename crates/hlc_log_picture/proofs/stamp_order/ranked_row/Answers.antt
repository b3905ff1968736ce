use Rattle.std.proofs.Common.{length, arith, ap}
use Rattle.hlc_causality.specs.Causality.{Skeleton}
use Rattle.hlc_ordered_log.proofs.EventsInOrder.{length-skeleton_of}
use Rattle.hlc_log_picture.proofs.stamp_order.ranked_row.Goals as goal

pub stamp-stamp-requires : goal.stamp-stamp-requires
stamp-stamp-requires c =
    let size = length-skeleton_of c.args.log.now c.requires.ordered in
    let same = ap (λ (s : Skeleton). length s) c.execution.ensures.events in
    omega arith
