use Rattle.std.proofs.Common.{refl}
use Rattle.hlc_arena.proofs.reserve_fault.ReserveFaultFromAllocError.from.Goals as goal

pub returns : goal.returns
returns c = refl
