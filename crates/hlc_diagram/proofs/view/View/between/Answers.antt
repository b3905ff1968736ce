use Rattle.std.proofs.Common.{rules}
use Rattle.hlc_diagram.proofs.view.View.between.Goals as goal

pub returns : goal.returns
returns c = search rules
