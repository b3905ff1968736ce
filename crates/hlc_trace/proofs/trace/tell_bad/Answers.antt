use Rattle.std.proofs.Common.{rules}
use Rattle.hlc_trace.proofs.trace.tell_bad.Goals as goal

pub returns : goal.returns
returns g c = search rules
