use Rattle.std.proofs.Common.{◌↔◌, subst}
use Rattle.std.specs.Prelude.{IsTrue}
use Rattle.hlc_causality.specs.Causality.{Skeleton}
use Rattle.hlc_figures.specs.Chosen.{IsMissing}
use Rattle.hlc_diagram.proofs.drawing.lacks.Goals as goal

pub returns : goal.returns
returns g c =
    subst (λ (s : Skeleton). IsTrue c.is_missing.result ↔ IsMissing s c.args.event) c.execution.ensures.events c.is_missing.ensures
