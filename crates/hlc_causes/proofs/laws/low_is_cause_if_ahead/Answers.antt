use Rattle.hlc_causes.proofs.CauseLaws as lemmas
use Rattle.hlc_causes.proofs.laws.low_is_cause_if_ahead.Goals as goal

pub returns-clause-cause : goal.returns-clause-cause
returns-clause-cause c = lemmas.low_is_cause_if_ahead

pub returns-clause-heard : goal.returns-clause-heard
returns-clause-heard c = lemmas.low_heard_of_disorder
