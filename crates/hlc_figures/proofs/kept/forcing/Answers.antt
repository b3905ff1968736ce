use Rattle.hlc_figures.proofs.Links.{forcing_named_in}
use Rattle.hlc_figures.proofs.kept.forcing.Goals as goal

pub returns-clause-forcing : goal.returns-clause-forcing
returns-clause-forcing g c =
    let of = c.execution.ensures in
    forcing_named_in (g.S.Subject.content c.args.subject.now) c.args.event.0 c.execution.result.now c.forcing.result of.clocks of.stamps
    c.requires c.forcing.ensures.forcing
