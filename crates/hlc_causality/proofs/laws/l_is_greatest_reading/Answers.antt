use Rattle.hlc_causality.proofs.LeastPairs.{l_is_greatest_reading}
use Rattle.hlc_causality.proofs.laws.l_is_greatest_reading.Goals as goal

pub returns : goal.returns
returns c = l_is_greatest_reading
