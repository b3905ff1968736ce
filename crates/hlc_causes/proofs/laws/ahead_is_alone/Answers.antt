use Rattle.hlc_causes.proofs.CauseLaws as lemmas
use Rattle.hlc_causes.proofs.laws.ahead_is_alone.Goals as goal

pub returns : goal.returns
returns c = lemmas.ahead_is_alone
