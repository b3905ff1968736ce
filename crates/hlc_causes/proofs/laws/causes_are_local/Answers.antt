use Rattle.hlc_causes.proofs.OneEvent as lemmas
use Rattle.hlc_causes.proofs.laws.causes_are_local.Goals as goal

pub returns : goal.returns
returns c = lemmas.causes_are_local
