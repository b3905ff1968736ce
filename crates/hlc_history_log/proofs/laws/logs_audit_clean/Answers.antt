use Rattle.hlc_history_log.proofs.LogLaws.{logs_audit_clean, logs_have_an_order}
use Rattle.hlc_history_log.proofs.laws.logs_audit_clean.Goals as goal

pub returns : goal.returns
returns c = record {
  order = logs_have_an_order;
  clean = logs_audit_clean;
}
