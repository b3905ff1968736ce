use Rattle.std.proofs.Common.{rules}
use Rattle.hlc_shared.proofs.gate.AlwaysOpenGate.enter.Goals as goal

pub returns : goal.returns
returns g c = search rules
