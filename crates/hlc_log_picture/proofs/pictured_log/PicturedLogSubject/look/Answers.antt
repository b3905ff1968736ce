use Rattle.std.proofs.Common.{◌<◌, ◌∙◌, ap, arith, length}
use Rattle.hlc_log_picture.specs.Drawn.{DrawnLog}
use Rattle.hlc_log_picture.specs.Judged.{event_finding_at}
use Rattle.hlc_log_picture.specs.Looks.{look_of}
use Rattle.hlc_log_picture.proofs.Pictured.{exists_inside, finding_here}
use Rattle.hlc_log_picture.proofs.pictured_log.PicturedLogSubject.look.Goals as goal

pub index-requires : goal.index-requires
index-requires c =
    let exists = exists_inside _ _ _ c.self.view_is c.self.invariant.ordered c.requires in
    let size = c.self.invariant.judged in
    omega arith

pub returns : goal.returns
returns c =
    let exists = exists_inside _ _ _ c.self.view_is c.self.invariant.ordered c.requires in
    let size = c.self.invariant.judged in
    let findings = c.self.inside.findings.items in
    let within : c.args.event.0 < length findings = omega arith in
    c.look_of.ensures ∙ ap look_of (finding_here findings c.args.event.0 c.index.result.now within c.index.ensures)
    ∙ ap (λ (drawn : DrawnLog). look_of (event_finding_at drawn.findings c.args.event.0)) c.self.view_is
