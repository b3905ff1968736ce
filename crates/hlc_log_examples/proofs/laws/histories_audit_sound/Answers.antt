use Rattle.hlc_log_examples.proofs.AuditedHistories as lemmas
use Rattle.hlc_log_examples.proofs.laws.histories_audit_sound.Goals as goal

pub returns : goal.returns
returns c = lemmas.histories_audit_sound
