use Rattle.std.proofs.Common.{◌∙◌, ap, arith}
use Rattle.hlc_log_picture.specs.Drawn.{DrawnLog, finding_of_row}
use Rattle.hlc_log_picture.specs.declared.event_finding.EventFinding.{EventFinding}
use Rattle.hlc_log_picture.proofs.Pictured.{finding_here, kept_in}
use Rattle.hlc_log_picture.proofs.pictured_log.PicturedLog.finding.Goals as goal

pub index-requires : goal.index-requires
index-requires c =
    let within = kept_in _ _ c.args.event.0 c.self.view_is c.self.invariant.judged c.requires in
    omega (arith, within)

pub returns : goal.returns
returns c =
    let e = c.args.event.0 in
    let within = kept_in _ _ e c.self.view_is c.self.invariant.judged c.requires in
    ap (λ (j : EventFinding). j.finding) (finding_here c.self.inside.findings.items e c.index.result.now within c.index.ensures)
    ∙ ap (λ (drawn : DrawnLog). finding_of_row drawn e) c.self.view_is
