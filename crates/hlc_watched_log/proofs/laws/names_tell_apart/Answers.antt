use Rattle.hlc_watched_log.proofs.MessageNumbers as lemmas
use Rattle.hlc_watched_log.proofs.laws.names_tell_apart.Goals as goal

pub returns : goal.returns
returns c = lemmas.names_tell_apart
