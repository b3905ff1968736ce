use Rattle.hlc_watch.proofs.Counted as lemmas
use Rattle.hlc_watch.proofs.laws.each_is_counted.Goals as goal

pub returns : goal.returns
returns c = lemmas.each_is_counted
