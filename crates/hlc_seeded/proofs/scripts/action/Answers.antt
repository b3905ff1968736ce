use Rattle.std.proofs.Common.{rules}
use Rattle.hlc_seeded.proofs.scripts.action.Goals as goal

pub returns : goal.returns
returns c = search rules
