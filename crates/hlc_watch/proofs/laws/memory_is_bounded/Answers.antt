use Rattle.hlc_watch.proofs.Bounds as lemmas
use Rattle.hlc_watch.proofs.laws.memory_is_bounded.Goals as goal

pub returns : goal.returns
returns c = lemmas.stays_small
