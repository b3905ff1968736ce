use Rattle.hlc_ordered_log.proofs.CleanLogs as lemmas
use Rattle.hlc_ordered_log.proofs.laws.no_causes_are_least.Goals as goal

pub returns : goal.returns
returns c = lemmas.no_causes_are_least
