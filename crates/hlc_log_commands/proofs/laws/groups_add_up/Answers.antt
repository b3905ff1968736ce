use Rattle.hlc_log_commands.proofs.CauseGroups as lemmas
use Rattle.hlc_log_commands.proofs.laws.groups_add_up.Goals as goal

pub returns : goal.returns
returns c = lemmas.groups_add_up
