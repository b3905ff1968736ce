use Rattle.hlc_causality.proofs.LeastFeasible.{feasible_past_is_not_low}
use Rattle.hlc_causality.proofs.floor_laws.feasible_past_is_not_low.Goals as goal

pub returns : goal.returns
returns c = feasible_past_is_not_low
