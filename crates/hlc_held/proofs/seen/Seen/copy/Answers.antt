use Rattle.std.proofs.Common.{rules}
use Rattle.hlc_held.proofs.seen.Seen.copy.Goals as goal

pub returns : goal.returns
returns c = search rules
