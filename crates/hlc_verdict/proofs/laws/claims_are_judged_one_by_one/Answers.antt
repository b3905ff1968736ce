use Rattle.hlc_verdict.proofs.OneByOne.{claims_are_judged_one_by_one}
use Rattle.hlc_verdict.proofs.laws.claims_are_judged_one_by_one.Goals as goal

pub returns : goal.returns
returns c = claims_are_judged_one_by_one
