use Rattle.std.proofs.Common.{rules}
use Rattle.hlc_shared.proofs.shared.Shared.with_settings.Goals as goal

pub returns-in_err-cluster-clause-refused : goal.returns-in_err-cluster-clause-refused
returns-in_err-cluster-clause-refused g c = search rules

pub new-requires-clause-capacity : goal.new-requires-clause-capacity
new-requires-clause-capacity g c = search rules

pub returns-in_err-held-clause-refused : goal.returns-in_err-held-clause-refused
returns-in_err-held-clause-refused g c = search rules
