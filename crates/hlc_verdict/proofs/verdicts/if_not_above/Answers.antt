use Rattle.std.proofs.Common.{rules}
use Rattle.hlc_verdict.proofs.verdicts.if_not_above.Goals as goal

pub returns : goal.returns
returns g c = search rules
