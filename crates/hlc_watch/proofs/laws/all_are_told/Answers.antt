use Rattle.hlc_watch.proofs.Whole as lemmas
use Rattle.hlc_watch.proofs.laws.all_are_told.Goals as goal

pub returns : goal.returns
returns c = lemmas.tells_all
