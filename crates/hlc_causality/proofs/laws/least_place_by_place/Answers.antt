use Rattle.hlc_causality.proofs.LeastList.{least_place_by_place}
use Rattle.hlc_causality.proofs.laws.least_place_by_place.Goals as goal

pub returns : goal.returns
returns c = least_place_by_place
