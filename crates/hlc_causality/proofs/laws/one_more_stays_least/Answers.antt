use Rattle.hlc_causality.proofs.LeastList.{one_more_stays_least}
use Rattle.hlc_causality.proofs.laws.one_more_stays_least.Goals as goal

pub returns : goal.returns
returns c = one_more_stays_least
