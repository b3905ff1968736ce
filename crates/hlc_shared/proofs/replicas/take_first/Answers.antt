use Rattle.std.proofs.Common.{rules}
use Rattle.hlc_shared.proofs.replicas.take_first.Goals as goal

pub returns-then-len-capacity : goal.returns-then-len-capacity
returns-then-len-capacity c = search rules

pub returns-else-len-capacity : goal.returns-else-len-capacity
returns-else-len-capacity c = search rules
