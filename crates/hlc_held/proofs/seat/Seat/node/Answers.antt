use Rattle.std.proofs.Common.{rules}
use Rattle.hlc_held.proofs.seat.Seat.node.Goals as goal

pub returns-clause-node : goal.returns-clause-node
returns-clause-node g c = search rules
