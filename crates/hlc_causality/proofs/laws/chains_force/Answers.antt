use Rattle.hlc_causality.proofs.Chains.{chains_force}
use Rattle.hlc_causality.proofs.laws.chains_force.Goals as goal

pub returns : goal.returns
returns c = chains_force
