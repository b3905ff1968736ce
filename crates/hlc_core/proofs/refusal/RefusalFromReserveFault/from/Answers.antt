use Rattle.std.proofs.Common.{rules}
use Rattle.hlc_core.proofs.refusal.RefusalFromReserveFault.from.Goals as goal

pub returns-in-Full : goal.returns-in-Full
returns-in-Full c = search rules
