use Rattle.hlc_explain.proofs.DriftLaws as lemmas
use Rattle.hlc_explain.proofs.laws.drift_is_unique.Goals as goal

pub returns : goal.returns
returns c = lemmas.drift_is_unique
