use Rattle.std.proofs.Common.{rules}
use Rattle.hlc_examples.proofs.replicas.share_colour.Goals as goal

pub returns-clause-shown : goal.returns-clause-shown
returns-clause-shown c = search rules
