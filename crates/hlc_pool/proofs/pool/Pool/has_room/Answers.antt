use Rattle.std.proofs.Common.{rules}
use Rattle.hlc_pool.proofs.pool.Pool.has_room.Goals as goal

pub returns-then-sent-len : goal.returns-then-sent-len
returns-then-sent-len c = search rules
