use Rattle.hlc_log_audit.proofs.CleanReports.{least_stamps_are_sound, least_stamps_report_clean}
use Rattle.hlc_log_audit.proofs.laws.least_stamps_audit_clean.Goals as goal

pub returns : goal.returns
returns c = record {
  report = least_stamps_report_clean;
  sound = least_stamps_are_sound;
}
