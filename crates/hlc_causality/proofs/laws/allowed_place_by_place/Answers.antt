use Rattle.hlc_causality.proofs.Allowed.{allowed_place_by_place}
use Rattle.hlc_causality.proofs.laws.allowed_place_by_place.Goals as goal

pub returns : goal.returns
returns c = allowed_place_by_place
