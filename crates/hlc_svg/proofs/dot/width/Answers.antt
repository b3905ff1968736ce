use Rattle.std.proofs.Common.{refl}
use Rattle.hlc_svg.proofs.dot.width.Goals as goal

pub returns : goal.returns
returns c = rw c.from.ensures refl
