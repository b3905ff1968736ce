use Rattle.std.proofs.Common.{rules}
use Rattle.hlc_c.proofs.clock.hlc_is_below.Goals as goal

pub returns : goal.returns
returns c = search rules
