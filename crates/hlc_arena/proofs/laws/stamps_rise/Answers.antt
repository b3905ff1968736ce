use Rattle.hlc_arena.proofs.StampsRise.{allowed_stamps_rise}
use Rattle.hlc_arena.proofs.laws.stamps_rise.Goals as goal

pub returns : goal.returns
returns c = allowed_stamps_rise
