use Rattle.std.proofs.Common.{rules}
use Rattle.hlc_shared.proofs.shared.Shared.with_limit.Goals as goal

pub with_settings-requires-clause-limit : goal.with_settings-requires-clause-limit
with_settings-requires-clause-limit g c = search rules
