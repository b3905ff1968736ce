use Rattle.std.proofs.Common.{rules}
use Rattle.hlc_stamp.proofs.clock.tick.Goals as goal

pub returns-else-l-old-clause-least : goal.returns-else-l-old-clause-least
returns-else-l-old-clause-least c = search rules
