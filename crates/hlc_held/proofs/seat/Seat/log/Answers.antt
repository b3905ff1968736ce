use Rattle.std.proofs.Common.{rules}
use Rattle.hlc_held.proofs.seat.Seat.log.Goals as goal

pub returns : goal.returns
returns g c = search rules
