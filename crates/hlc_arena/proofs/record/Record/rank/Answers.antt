use Rattle.std.proofs.Common.{refl}
use Rattle.hlc_arena.proofs.record.Record.rank.Goals as goal

pub returns : goal.returns
returns c = refl
