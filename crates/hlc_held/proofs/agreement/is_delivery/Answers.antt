use Rattle.std.proofs.Common.{rules}
use Rattle.hlc_held.proofs.agreement.is_delivery.Goals as goal

pub returns-in-Deliver : goal.returns-in-Deliver
returns-in-Deliver c = search rules
