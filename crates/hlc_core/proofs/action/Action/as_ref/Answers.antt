use Rattle.std.proofs.Common.{rules}
use Rattle.hlc_core.proofs.action.Action.as_ref.Goals as goal

pub returns-in-Write : goal.returns-in-Write
returns-in-Write c = search rules
