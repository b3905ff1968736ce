use Rattle.hlc_causes.proofs.Given as lemmas
use Rattle.hlc_causes.proofs.laws.given_is_no_cause.Goals as goal

pub returns : goal.returns
returns c = lemmas.given_is_no_cause
