use Rattle.std.proofs.Common.{rules}
use Rattle.hlc_held.proofs.agreement.is_answer.Goals as goal

pub returns-then-eq : goal.returns-then-eq
returns-then-eq c = search rules
