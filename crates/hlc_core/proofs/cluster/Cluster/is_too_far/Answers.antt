use Rattle.std.proofs.Common.{rules}
use Rattle.hlc_core.proofs.cluster.Cluster.is_too_far.Goals as goal

pub returns-in-Some : goal.returns-in-Some
returns-in-Some c = search rules
