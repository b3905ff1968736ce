-- The chain of an event.
use Rattle.std.proofs.Common.{ℕ, List, [], ◌∷◌, ◌++◌, arith}
use Rattle.hlc_stamp.specs.Order.{Pair}
use Rattle.hlc_causality.specs.Assignment.{pair_at}
use Rattle.hlc_causality.specs.Causality.{Skeleton}
use Rattle.hlc_causality.specs.Chain.{IsChainOf, IsForcing}
use Rattle.hlc_causality.specs.ClockEvents.{ticking}
use Rattle.hlc_causality.specs.Laws.{ChainOfExists, ChainOfIsChain, ChainOfIsUnique}
use Rattle.hlc_causality.proofs.ClockChains.{clock_chain_of_exists, clock_chain_of_is_chain, clock_chain_of_is_unique, clock_chain_of_push}
use Rattle.hlc_causality.proofs.ClockEvents.{ticking_size}
use Rattle.hlc_causality.proofs.Ticking.{ticking_chain_is_chain, ticking_chain_of_is_chain_of, ticking_forcing_is_forcing, ticking_least_is_least}

-- the chain of an event is that of its forcing event, and then the event
pub chain_of_push : (s : Skeleton) (pairs : List Pair) (d f : ℕ) (chain : List ℕ)
    → IsChainOf s pairs d chain → IsForcing s pairs d f → IsChainOf s pairs f (chain ++ f ∷ [])
chain_of_push s pairs d f chain h forcing =
    (ticking_chain_of_is_chain_of s pairs f (chain ++ f ∷ [])).1 (clock_chain_of_push (ticking s) pairs d f chain
    ((ticking_chain_of_is_chain_of s pairs d chain).0 h) ((ticking_forcing_is_forcing s pairs d f).0 forcing))

pub chain_of_exists : ChainOfExists
chain_of_exists s pairs f exists =
    let found = clock_chain_of_exists (ticking s) pairs f (omega (arith, ticking_size s)) in
    (found.0, (ticking_chain_of_is_chain_of s pairs f found.0).1 found.1)

pub chain_of_is_unique : ChainOfIsUnique
chain_of_is_unique s pairs f chain other a b =
    clock_chain_of_is_unique (ticking s) pairs f chain other
    ((ticking_chain_of_is_chain_of s pairs f chain).0 a) ((ticking_chain_of_is_chain_of s pairs f other).0 b)

pub chain_of_is_chain : ChainOfIsChain
chain_of_is_chain s pairs f chain least h =
    (ticking_chain_is_chain s (pair_at pairs f) f chain).1 (clock_chain_of_is_chain (ticking s) pairs f chain
    ((ticking_least_is_least s pairs).0 least) ((ticking_chain_of_is_chain_of s pairs f chain).0 h))
