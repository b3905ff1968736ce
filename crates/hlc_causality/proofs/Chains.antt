-- A chain forces its pair.
use Rattle.hlc_causality.specs.ClockEvents.{ticking}
use Rattle.hlc_causality.specs.Laws.{ChainsForce}
use Rattle.hlc_causality.proofs.ClockChains.{clock_chains_force}
use Rattle.hlc_causality.proofs.Ticking.{ticking_chain_is_chain, ticking_feasible_is_allowed}

pub chains_force : ChainsForce
chains_force s p f chain h pairs allowed =
    clock_chains_force (ticking s) p f chain ((ticking_chain_is_chain s p f chain).0 h) pairs ((ticking_feasible_is_allowed s pairs).0 allowed)
