use Rattle.std.proofs.Common.{arith}
use Rattle.hlc_pool.proofs.pool.Pool.new.Goals as goal

pub returns-clause-nodes : goal.returns-clause-nodes
returns-clause-nodes c = omega (arith, c.in_ok-resize.ensures.len)
