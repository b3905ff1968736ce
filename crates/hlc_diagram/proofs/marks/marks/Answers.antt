use Rattle.std.proofs.Common.{arith}
use Rattle.std.proofs.lemmas.Grind.{common_steps}
use Rattle.hlc_diagram.proofs.marks.marks.Goals as goal

pub loop-event-init : goal.loop-event-init
loop-event-init c = grind (arith, common_steps)
