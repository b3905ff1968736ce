use Rattle.std.proofs.Common.{◌+◌, arith, refl, subst, sym}
use Rattle.hlc_log_picture.specs.Judged.{AreEventFindingsBefore}
use Rattle.hlc_log_picture.proofs.Judging.{findings_push}
use Rattle.hlc_log_picture.proofs.event_finding.findings.Goals as goal

pub loop-place-init : goal.loop-place-init
loop-place-init c =
    subst (AreEventFindingsBefore c.args.log.now c.args.full 0) (sym c.in_ok-findings.ensures.items)
    (record { one_each = refl; each = λ k lt. absurd (omega arith) })

pub loop-place-preserved : goal.loop-place-preserved
loop-place-preserved c =
    let next = findings_push c.args.log.now c.args.full c.loop-place.place c.loop-place.findings.items c.judge.result c.loop-place.invariant c.judge.ensures in
    subst (AreEventFindingsBefore c.args.log.now c.args.full (c.loop-place.place + 1)) (sym c.in_ok-push.ensures.items) next
