use Rattle.hlc_seeded.proofs.Words.{key_is}
use Rattle.hlc_seeded.proofs.draw.Draw.key.Goals as goal

pub returns : goal.returns
returns c = key_is c.args.self.a
