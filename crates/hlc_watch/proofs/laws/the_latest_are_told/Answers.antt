use Rattle.hlc_watch.proofs.Latest as lemmas
use Rattle.hlc_watch.proofs.laws.the_latest_are_told.Goals as goal

pub returns : goal.returns
returns c = lemmas.tells_latest
