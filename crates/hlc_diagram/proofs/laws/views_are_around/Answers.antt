use Rattle.hlc_diagram.proofs.Windows.{views_are_around}
use Rattle.hlc_diagram.proofs.laws.views_are_around.Goals as goal

pub returns : goal.returns
returns c = views_are_around
