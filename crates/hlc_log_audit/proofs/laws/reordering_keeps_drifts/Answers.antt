use Rattle.hlc_log_audit.proofs.ReorderedAnswers.{drifts_agree, reordering_keeps_drifts}
use Rattle.hlc_log_audit.proofs.laws.reordering_keeps_drifts.Goals as goal

pub returns : goal.returns
returns c = record {
  drifts = reordering_keeps_drifts;
  logs = drifts_agree;
}
