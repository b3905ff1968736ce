use Rattle.hlc_causes.proofs.Swapped as lemmas
use Rattle.hlc_causes.proofs.laws.kept_after_previous.Goals as goal

pub returns : goal.returns
returns c = lemmas.kept_after_previous
