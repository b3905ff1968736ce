use Rattle.hlc_log_audit.proofs.ReorderedPaths as lemmas
use Rattle.hlc_log_audit.proofs.laws.reordering_keeps_paths.Goals as goal

pub returns : goal.returns
returns c = lemmas.reordering_keeps_paths
