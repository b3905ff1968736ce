use Rattle.hlc_core.proofs.Promise.{drifts_stay_within}
use Rattle.hlc_core.proofs.laws.drifts_stay_within.Goals as goal

pub returns : goal.returns
returns c = drifts_stay_within
