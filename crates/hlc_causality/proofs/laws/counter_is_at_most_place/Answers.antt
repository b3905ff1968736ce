use Rattle.hlc_causality.proofs.LeastPairs.{counter_is_at_most_place}
use Rattle.hlc_causality.proofs.laws.counter_is_at_most_place.Goals as goal

pub returns : goal.returns
returns c = counter_is_at_most_place
