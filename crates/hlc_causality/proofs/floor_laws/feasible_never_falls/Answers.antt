use Rattle.hlc_causality.proofs.Feasible.{feasible_never_falls}
use Rattle.hlc_causality.proofs.floor_laws.feasible_never_falls.Goals as goal

pub returns : goal.returns
returns c = feasible_never_falls
