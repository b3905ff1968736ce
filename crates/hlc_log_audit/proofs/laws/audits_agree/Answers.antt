use Rattle.hlc_log_audit.proofs.SameAudits as audits
use Rattle.hlc_log_audit.proofs.SameOutcomes.{outcomes_agree}
use Rattle.hlc_log_audit.proofs.SameReports.{rearranged_reports_agree, reports_agree}
use Rattle.hlc_log_audit.proofs.laws.audits_agree.Goals as goal

pub returns : goal.returns
returns c = record {
  audits = audits.audits_agree;
  reports = reports_agree;
  rearranged = rearranged_reports_agree;
  outcomes = outcomes_agree;
}
