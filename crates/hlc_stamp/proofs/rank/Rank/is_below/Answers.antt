use Rattle.std.proofs.Common.{rules}
use Rattle.hlc_stamp.proofs.rank.Rank.is_below.Goals as goal

pub returns : goal.returns
returns c = search rules
