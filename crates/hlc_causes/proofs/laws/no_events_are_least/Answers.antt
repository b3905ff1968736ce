use Rattle.hlc_causes.proofs.CauseLaws as lemmas
use Rattle.hlc_causes.proofs.laws.no_events_are_least.Goals as goal

pub returns : goal.returns
returns c = lemmas.no_events_are_least
