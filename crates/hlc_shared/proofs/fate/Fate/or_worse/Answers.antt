use Rattle.std.proofs.Common.{rules}
use Rattle.hlc_shared.proofs.fate.Fate.or_worse.Goals as goal

pub returns-then-two-one : goal.returns-then-two-one
returns-then-two-one c = search rules

pub returns-else-two-one : goal.returns-else-two-one
returns-else-two-one c = search rules
