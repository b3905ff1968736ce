use Rattle.hlc_causes.proofs.CauseLaws.{behind_is_cause, not_above_is_cause}
use Rattle.hlc_causes.proofs.laws.disorder_is_its_own_cause.Goals as goal

pub returns-clause-behind : goal.returns-clause-behind
returns-clause-behind c = behind_is_cause

pub returns-clause-not_above : goal.returns-clause-not_above
returns-clause-not_above c = not_above_is_cause
