use Rattle.hlc_causality.proofs.LeastPairs.{cuts_are_closed}
use Rattle.hlc_causality.proofs.laws.cuts_are_closed.Goals as goal

pub returns : goal.returns
returns c = cuts_are_closed
