use Rattle.hlc_causality.proofs.ClockEvents.{ticking_has_the_skeleton}
use Rattle.hlc_causality.proofs.Ticking.{ticking_chain_is_chain, ticking_chain_of_is_chain_of, ticking_feasible_at_is_allowed_at, ticking_feasible_is_allowed, ticking_forcing_is_forcing, ticking_least_at_is_least_above, ticking_least_is_least, ticking_pairs_are_least_pairs}
use Rattle.hlc_causality.proofs.floor_laws.readings_are_floors.Goals as goal

pub returns-clause-skeleton : goal.returns-clause-skeleton
returns-clause-skeleton c = ticking_has_the_skeleton

pub returns-clause-feasible : goal.returns-clause-feasible
returns-clause-feasible c = ticking_feasible_is_allowed

pub returns-clause-feasible_at : goal.returns-clause-feasible_at
returns-clause-feasible_at c = ticking_feasible_at_is_allowed_at

pub returns-clause-least : goal.returns-clause-least
returns-clause-least c = ticking_least_is_least

pub returns-clause-least_at : goal.returns-clause-least_at
returns-clause-least_at c = ticking_least_at_is_least_above

pub returns-clause-forcing : goal.returns-clause-forcing
returns-clause-forcing c = ticking_forcing_is_forcing

pub returns-clause-chain_of : goal.returns-clause-chain_of
returns-clause-chain_of c = ticking_chain_of_is_chain_of

pub returns-clause-chain : goal.returns-clause-chain
returns-clause-chain c = ticking_chain_is_chain

pub returns-clause-pairs : goal.returns-clause-pairs
returns-clause-pairs c = ticking_pairs_are_least_pairs
