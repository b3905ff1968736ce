use Rattle.std.proofs.Common.{arith}
use Rattle.std.proofs.lemmas.Grind.{common_steps}
use Rattle.hlc_held.proofs.held.log_look.Goals as goal

pub returns-clause-logged : goal.returns-clause-logged
returns-clause-logged c = grind (arith, common_steps)
