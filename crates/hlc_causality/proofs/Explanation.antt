-- What explains a stamp forces it up.
use Rattle.std.proofs.Common.{ℕ, ◌<◌, List, length}
use Rattle.hlc_stamp.specs.Order.{Pair}
use Rattle.hlc_causality.specs.Assignment.{IsForcedAt, IsLeast, pair_at}
use Rattle.hlc_causality.specs.Causality.{Skeleton}
use Rattle.hlc_causality.specs.Chain.{IsChainOf}
use Rattle.hlc_causality.specs.Explanation.{IsExplained, IsExplainedBy}
use Rattle.hlc_causality.proofs.Chains.{chains_force}
use Rattle.hlc_causality.proofs.ForcedChains.{chain_of_exists, chain_of_is_chain}

pub explained_is_forced : (s : Skeleton) (pairs : List Pair) (e : ℕ) (list : List ℕ) → IsExplainedBy s pairs e list → IsForcedAt s pairs e
explained_is_forced s pairs e list h = chains_force s (pair_at pairs e) e list h.chain

-- with least pairs the chain of an event explains its pair
pub chain_explains :
    (s : Skeleton) (pairs : List Pair) (e : ℕ) (chain : List ℕ)
    → e < length s → IsLeast s pairs → IsChainOf s pairs e chain → IsExplainedBy s pairs e chain
chain_explains s pairs e chain exists least own = record { exists = exists; chain = chain_of_is_chain s pairs e chain least own }

-- and every event is so explained
pub each_is_explained : (s : Skeleton) (pairs : List Pair) (e : ℕ) → IsLeast s pairs → e < length s
    → (chain : List ℕ) × IsExplained s pairs e chain
each_is_explained s pairs e least exists =
    let own = chain_of_exists s pairs e exists in
    let explains = chain_explains s pairs e own.0 exists least own.1 in
    (own.0, record { own = own.1; explains = explains; forces = explained_is_forced s pairs e own.0 explains })
