use Rattle.hlc_ordered_log.proofs.ReorderedTraces as lemmas
use Rattle.hlc_ordered_log.proofs.laws.reordering_keeps_skews.Goals as goal

pub returns : goal.returns
returns c = lemmas.reordering_keeps_skews
