use Rattle.std.proofs.Common.{◌≡◌, ◌<◌, ℕ, true, rules, subst, sym}
use Rattle.std.proofs.lemmas.List.Elements.{All-contains}
use Rattle.hlc_diagram.specs.Cross.{is_shown}
use Rattle.hlc_diagram.specs.declared.cross.Cross.{Cross}
use Rattle.hlc_figures.proofs.NodeLanes.{among_from}
use Rattle.hlc_diagram.proofs.Crosses.{drawable}
use Rattle.hlc_diagram.proofs.cross.put_message.Goals as goal

pub put_cross-requires : goal.put_cross-requires
put_cross-requires g c =
    let s = c.args.scene.now in
    let nodes = (g.S.Subject.content c.args.subject.now).nodes in
    let message = c.args.failed.first in
    let shown : is_shown s.frame s.lanes.now c.args.failed.first ≡ true = search rules in
    let has = among_from s.lanes.now message.to.0 (drawable s.frame s.lanes.now message shown).lane in
    let exists : message.to.0 < nodes = All-contains (λ (node : ℕ). node < nodes) s.lanes.now message.to.0 c.requires.lanes has in
    subst (λ (x : Cross). x.failed.first.to.0 < nodes) (sym c.cross_to.ensures) exists
