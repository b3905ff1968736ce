use Rattle.std.proofs.Common.{refl}
use Rattle.hlc_arena.proofs.kind.Kind.delivered.Goals as goal

pub returns-in-Deliver : goal.returns-in-Deliver
returns-in-Deliver c = rw c.in-Deliver.is refl
