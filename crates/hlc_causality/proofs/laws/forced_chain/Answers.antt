use Rattle.hlc_causality.proofs.ForcedChains.{chain_of_exists, chain_of_is_chain, chain_of_is_unique}
use Rattle.hlc_causality.proofs.Forcing.{forcing_event_is_direct, forcing_event_is_one_before, forcing_event_is_unique}
use Rattle.hlc_causality.proofs.laws.forced_chain.Goals as goal

pub returns-clause-one_forcing : goal.returns-clause-one_forcing
returns-clause-one_forcing c = forcing_event_is_unique

pub returns-clause-direct : goal.returns-clause-direct
returns-clause-direct c = forcing_event_is_direct

pub returns-clause-one_before : goal.returns-clause-one_before
returns-clause-one_before c = forcing_event_is_one_before

pub returns-clause-exists : goal.returns-clause-exists
returns-clause-exists c = chain_of_exists

pub returns-clause-unique : goal.returns-clause-unique
returns-clause-unique c = chain_of_is_unique

pub returns-clause-chain : goal.returns-clause-chain
returns-clause-chain c = chain_of_is_chain
