-- What explains a stamp: a list of events that forces every clock up to it.
use Rattle.std.specs.Prelude.{ℕ, ◌<◌, List, length}
use Rattle.hlc_stamp.specs.Order.{Pair}
use Rattle.hlc_causality.specs.Assignment.{IsForcedAt, pair_at}
use Rattle.hlc_causality.specs.Causality.{Skeleton}
use Rattle.hlc_causality.specs.Chain.{IsChain, IsChainOf}

-- the event at e exists, and the list is a chain for its pair
pub record IsExplainedBy (s : Skeleton) (pairs : List Pair) (e : ℕ) (list : List ℕ) : Type 0 where
  pub exists : e < length s
  pub chain : IsChain s (pair_at pairs e) e list

-- why the pair of an event is no lower: the event's own chain is one for its pair, and so every allowed assignment gives it at
-- least that
pub record IsExplained (s : Skeleton) (pairs : List Pair) (e : ℕ) (chain : List ℕ) : Type 0 where
  pub own : IsChainOf s pairs e chain
  pub explains : IsExplainedBy s pairs e chain
  pub forces : IsForcedAt s pairs e
