use Rattle.hlc_arena.proofs.KnownWrites.{events_make_known_lem}
use Rattle.hlc_arena.proofs.laws.events_make_known.Goals as goal

pub returns : goal.returns
returns c = events_make_known_lem
