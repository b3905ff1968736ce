use Rattle.std.proofs.Common.{rules}
use Rattle.hlc_held.proofs.logs_by_node.take_in.Goals as goal

pub returns-clause-put : goal.returns-clause-put
returns-clause-put g c = search rules
