use Rattle.hlc_causality.proofs.TickingReceives.{least_by_readings}
use Rattle.hlc_execution.proofs.laws.ticking_least_is_least.Goals as goal

pub returns : goal.returns
returns c = λ x ticks. least_by_readings x.rules x.events ticks x.stamps
