use Rattle.hlc_causality.proofs.ClockChains.{clock_chains_force}
use Rattle.hlc_causality.proofs.floor_laws.clock_chains_force.Goals as goal

pub returns : goal.returns
returns c = clock_chains_force
