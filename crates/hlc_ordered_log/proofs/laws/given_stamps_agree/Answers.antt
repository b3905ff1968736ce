use Rattle.hlc_ordered_log.proofs.Rearranged as lemmas
use Rattle.hlc_ordered_log.proofs.laws.given_stamps_agree.Goals as goal

pub returns : goal.returns
returns c = lemmas.given_stamps_agree
