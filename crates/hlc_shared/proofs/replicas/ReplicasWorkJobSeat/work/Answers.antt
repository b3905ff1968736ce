use Rattle.std.proofs.Common.{rules}
use Rattle.hlc_shared.proofs.replicas.ReplicasWorkJobSeat.work.Goals as goal

pub returns-clause-done : goal.returns-clause-done
returns-clause-done g c = search rules
