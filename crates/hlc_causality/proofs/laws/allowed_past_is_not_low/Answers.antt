use Rattle.hlc_causality.proofs.LeastList.{allowed_past_is_not_low}
use Rattle.hlc_causality.proofs.laws.allowed_past_is_not_low.Goals as goal

pub returns : goal.returns
returns c = allowed_past_is_not_low
