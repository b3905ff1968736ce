use Rattle.hlc_log_audit.proofs.SameAnswers as lemmas
use Rattle.hlc_log_audit.proofs.laws.answers_agree.Goals as goal

pub returns : goal.returns
returns c = lemmas.answers_agree
