use Rattle.hlc_verdict.proofs.Honesty.{faultless_claims_are_least}
use Rattle.hlc_verdict.proofs.laws.faultless_claims_are_least.Goals as goal

pub returns : goal.returns
returns c = faultless_claims_are_least
