use Rattle.hlc_watch.proofs.OnLogs as lemmas
use Rattle.hlc_watch.proofs.laws.records_tell_causes.Goals as goal

pub returns : goal.returns
returns c = lemmas.records_tell_causes
