use Rattle.hlc_log_audit.proofs.ReorderedTaints as lemmas
use Rattle.hlc_log_audit.proofs.laws.reordering_keeps_taints.Goals as goal

pub returns : goal.returns
returns c = lemmas.reordering_keeps_taints
