use Rattle.std.proofs.Common.{rules}
use Rattle.hlc_trace.proofs.claim.count.Goals as goal

pub returns : goal.returns
returns c = search rules
