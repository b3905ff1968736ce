use Rattle.hlc_watched_log.proofs.EventsKept as lemmas
use Rattle.hlc_watched_log.proofs.laws.told_as_watched.Goals as goal

pub returns : goal.returns
returns c = lemmas.told_as_watched
