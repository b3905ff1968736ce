use Rattle.std.proofs.Common.{rules}
use Rattle.hlc_csv.proofs.numbers.number_u16.Goals as goal

pub returns : goal.returns
returns c = search rules
