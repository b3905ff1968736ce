use Rattle.hlc_causes.proofs.CauseLaws as lemmas
use Rattle.hlc_causes.proofs.laws.ahead_names_the_rules_stamp.Goals as goal

pub returns : goal.returns
returns c = lemmas.ahead_names_the_rules_stamp
