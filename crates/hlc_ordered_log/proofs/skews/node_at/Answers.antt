use Rattle.std.proofs.Common.{length, arith, ap}
use Rattle.hlc_causality.specs.Causality.{Skeleton}
use Rattle.hlc_ordered_log.proofs.EventsInOrder.{length-skeleton_of}
use Rattle.hlc_ordered_log.proofs.skews.node_at.Goals as goal

pub node_of-requires : goal.node_of-requires
node_of-requires c =
    let size = length-skeleton_of c.args.log.now c.requires.ordered in
    let same = ap (λ (s : Skeleton). length s) c.execution.ensures.events in
    let exists = c.requires.exists in
    omega arith
