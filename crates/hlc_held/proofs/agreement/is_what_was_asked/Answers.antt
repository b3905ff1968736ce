use Rattle.std.proofs.Common.{rules}
use Rattle.hlc_held.proofs.agreement.is_what_was_asked.Goals as goal

pub returns-then-is_any_delivery : goal.returns-then-is_any_delivery
returns-then-is_any_delivery c = search rules

pub returns-else-is_any_delivery : goal.returns-else-is_any_delivery
returns-else-is_any_delivery c = search rules
