use Rattle.std.proofs.Common.{rules}
use Rattle.hlc_held.proofs.held.Held.lose.Goals as goal

pub returns-clause-lost : goal.returns-clause-lost
returns-clause-lost g c = search rules

pub returns-clause-refused : goal.returns-clause-refused
returns-clause-refused g c = search rules
