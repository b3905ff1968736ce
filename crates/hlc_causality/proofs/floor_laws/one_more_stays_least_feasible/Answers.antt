use Rattle.hlc_causality.proofs.LeastFeasible.{one_more_stays_least_feasible}
use Rattle.hlc_causality.proofs.floor_laws.one_more_stays_least_feasible.Goals as goal

pub returns : goal.returns
returns c = one_more_stays_least_feasible
