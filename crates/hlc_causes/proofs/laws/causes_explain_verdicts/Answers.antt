use Rattle.hlc_causes.proofs.CauseLaws as lemmas
use Rattle.hlc_causes.proofs.laws.causes_explain_verdicts.Goals as goal

pub returns : goal.returns
returns c = lemmas.causes_explain_verdicts
