use Rattle.hlc_log_groups.proofs.GroupLaws as lemmas
use Rattle.hlc_log_groups.proofs.laws.rule_stamp_follows.Goals as goal

pub returns : goal.returns
returns c = lemmas.rule_pair_follows
