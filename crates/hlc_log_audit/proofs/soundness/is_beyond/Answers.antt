use Rattle.std.proofs.Common.{◌<◌, ap, arith, length, rules}
use Rattle.hlc_causality.specs.Causality.{Skeleton}
use Rattle.hlc_ordered_log.proofs.EventsInOrder.{length-skeleton_of}
use Rattle.hlc_log_audit.proofs.soundness.is_beyond.Goals as goal

pub unwrap-requires : goal.unwrap-requires
unwrap-requires c =
    let size = length-skeleton_of c.args.log.now c.requires.ordered in
    let same = ap (λ (s : Skeleton). length s) c.execution.ensures.events in
    let within : c.args.position.0 < length c.execution.result.now.events = omega (arith, c.requires.exists) in
    search rules
