use Rattle.hlc_log.proofs.KeptEvents.{waiting_is_passed_on}
use Rattle.hlc_log.proofs.laws.waiting_is_passed_on.Goals as goal

pub returns : goal.returns
returns c = waiting_is_passed_on
