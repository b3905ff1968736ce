use Rattle.std.proofs.Common.{◌∙◌, refl, sym}
use Rattle.hlc_core.proofs.cluster.erase.Goals as goal

pub returns : goal.returns
returns c = λ s node. record { passes = rw (sym c.is_bad.ensures ∙ c.if-is_bad.false) refl; kind = refl; live = refl; ends = tt }
