use Rattle.hlc_watch.proofs.Knowledge as lemmas
use Rattle.hlc_watch.proofs.laws.only_records_are_told.Goals as goal

pub returns : goal.returns
returns c = lemmas.tells_records
