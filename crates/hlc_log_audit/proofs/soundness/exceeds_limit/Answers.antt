use Rattle.std.proofs.Common.{Option, arith, subst}
use Rattle.hlc_ordered_log.proofs.EventsInOrder.{length-skeleton_of}
use Rattle.hlc_log_audit.specs.Audit.{ExceedsLimit}
use Rattle.hlc_log_audit.proofs.soundness.exceeds_limit.Goals as goal

pub returns : goal.returns
returns c = (
  λ holds. absurd (cc),
  λ exceeds.
      let log = c.args.log.now in
      let size = length-skeleton_of log c.len-position-end.ensures.ordered in
      let at = subst (λ (limit : Option _). ExceedsLimit limit log) c.in-Some.is exceeds in
      absurd (c.loop-position.invariant at.0 (omega (arith, at.1.exists, c.loop-position-test.false, c.len-position-end.ensures.value, size)) at.1),
)
