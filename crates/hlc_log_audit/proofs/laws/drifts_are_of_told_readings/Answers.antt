use Rattle.hlc_log_audit.proofs.ToldDrifts.{drifts_of_told_readings, told_drifts_are_found}
use Rattle.hlc_log_audit.proofs.laws.drifts_are_of_told_readings.Goals as goal

pub returns : goal.returns
returns c = record {
  found = told_drifts_are_found;
  all_told = drifts_of_told_readings;
}
