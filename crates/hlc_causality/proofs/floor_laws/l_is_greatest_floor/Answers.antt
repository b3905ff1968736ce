use Rattle.hlc_causality.proofs.LeastFeasible.{l_is_greatest_floor}
use Rattle.hlc_causality.proofs.floor_laws.l_is_greatest_floor.Goals as goal

pub returns : goal.returns
returns c = l_is_greatest_floor
