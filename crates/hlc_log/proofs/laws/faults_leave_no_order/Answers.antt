use Rattle.hlc_log.proofs.Agreement.{faults_leave_no_order}
use Rattle.hlc_log.proofs.laws.faults_leave_no_order.Goals as goal

pub returns : goal.returns
returns c = faults_leave_no_order
