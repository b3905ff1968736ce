use Rattle.hlc_log_groups.proofs.GroupLaws as lemmas
use Rattle.hlc_log_groups.proofs.laws.no_group_is_empty.Goals as goal

pub returns : goal.returns
returns c = lemmas.no_group_is_empty
