use Rattle.hlc_causality.proofs.Feasible.{feasible_cuts_are_closed}
use Rattle.hlc_causality.proofs.floor_laws.feasible_cuts_are_closed.Goals as goal

pub returns : goal.returns
returns c = feasible_cuts_are_closed
