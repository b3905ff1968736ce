use Rattle.std.proofs.Common.{subst}
use Rattle.hlc_log_text.specs.Names.{EachNameOnce}
use Rattle.hlc_log_text.proofs.names.Names.len.Goals as goal

pub returns-clause-once : goal.returns-clause-once
returns-clause-once c = subst EachNameOnce c.self.view_is c.self.invariant
