use Rattle.std.proofs.Common.{◌≡◌, ℕ, length, arith, subst}
use Rattle.hlc_ordered_log.specs.InOrder.{reading_told, skeleton_of}
use Rattle.hlc_ordered_log.specs.Skew.{AreSkewsBefore}
use Rattle.hlc_ordered_log.proofs.EventsInOrder.{length-skeleton_of}
use Rattle.hlc_ordered_log.proofs.MoreMessages.{skews_begin}
use Rattle.hlc_ordered_log.proofs.skews.skews_of.Goals as goal

pub loop-position-init : goal.loop-position-init
loop-position-init c = skews_begin (skeleton_of c.args.log.now) (reading_told c.args.log.now) c.new-skews.result.entries c.new-skews.ensures.empty c.new-skews.ensures.ordered

pub returns : goal.returns
returns c =
    let log = c.args.log.now in
    let size = length-skeleton_of log c.len-position-end.ensures.ordered in
    let same : c.loop-position.position ≡ length (skeleton_of log) = omega (arith, c.loop-position-test.false, c.len-position-end.ensures.value, c.loop-position.auto.position-end) in
    subst (λ (n : ℕ). AreSkewsBefore (skeleton_of log) (reading_told log) n c.loop-position.skews.entries) same c.loop-position.invariant
