use Rattle.hlc_figures.proofs.Links.{next_is_there}
use Rattle.hlc_figures.proofs.figure.next.Goals as goal

pub returns-clause-exists : goal.returns-clause-exists
returns-clause-exists g c =
    let s = c.args.scene.now in
    next_is_there (g.S.Subject.content c.args.subject.now) s.explained s.frame s.next c.requires.next
