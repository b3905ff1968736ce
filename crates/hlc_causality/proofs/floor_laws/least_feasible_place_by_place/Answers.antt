use Rattle.hlc_causality.proofs.LeastFeasible.{least_feasible_place_by_place}
use Rattle.hlc_causality.proofs.floor_laws.least_feasible_place_by_place.Goals as goal

pub returns : goal.returns
returns c = least_feasible_place_by_place
