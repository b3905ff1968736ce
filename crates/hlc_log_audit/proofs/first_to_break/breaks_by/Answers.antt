use Rattle.std.proofs.Common.{◌∙◌, ◌<◌, ap, arith, length, sym}
use Rattle.hlc_ordered_log.specs.InOrder.{clocks_of}
use Rattle.hlc_ordered_log.proofs.EventsInOrder.{length-clocks_of, length-skeleton_of}
use Rattle.hlc_log_audit.specs.FirstToBreak.{is_told_by}
use Rattle.hlc_log_audit.proofs.FirstToBreak.{breaks_told}
use Rattle.hlc_log_audit.proofs.first_to_break.breaks_by.Goals as goal

pub returns : goal.returns
returns c =
    let log = c.args.log.now in
    let k = c.args.position.0 in
    let there : k < length (clocks_of log) = omega (arith, c.requires.exists, length-clocks_of log, length-skeleton_of log c.requires.ordered) in
    let told = breaks_told log c.args.full c.args.word k there c.causes-causes.result c.causes-causes.ensures in
    let same = c.is_told_by.ensures ∙ ap (is_told_by c.args.word c.causes-causes.result) c.wrongly_carried-wrong.ensures in (
      λ is. told.0 (sym same ∙ is),
      λ breaks. same ∙ told.1 breaks,
    )
