use Rattle.std.proofs.Common.{rules}
use Rattle.hlc_shared.proofs.closed.compare_log.Goals as goal

pub returns-else-branch-clause-refused : goal.returns-else-branch-clause-refused
returns-else-branch-clause-refused c = search rules
