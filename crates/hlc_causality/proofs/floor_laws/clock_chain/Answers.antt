use Rattle.hlc_causality.proofs.ClockChains.{clock_chain_of_exists, clock_chain_of_is_chain, clock_chain_of_is_unique}
use Rattle.hlc_causality.proofs.ClockForcing.{clock_forcing_is_direct, clock_forcing_is_next, clock_forcing_is_unique}
use Rattle.hlc_causality.proofs.floor_laws.clock_chain.Goals as goal

pub returns-clause-one_forcing : goal.returns-clause-one_forcing
returns-clause-one_forcing c = clock_forcing_is_unique

pub returns-clause-direct : goal.returns-clause-direct
returns-clause-direct c = clock_forcing_is_direct

pub returns-clause-next : goal.returns-clause-next
returns-clause-next c = clock_forcing_is_next

pub returns-clause-exists : goal.returns-clause-exists
returns-clause-exists c = clock_chain_of_exists

pub returns-clause-unique : goal.returns-clause-unique
returns-clause-unique c = clock_chain_of_is_unique

pub returns-clause-chain : goal.returns-clause-chain
returns-clause-chain c = clock_chain_of_is_chain
