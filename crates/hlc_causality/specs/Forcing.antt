-- Answers that name forcing events and origins.
use Rattle.std.specs.Prelude.{ℕ, Option, Some, None, List, ◌∷◌}
use Rattle.hlc_stamp.specs.declared.id.EventId.{EventId}
use Rattle.hlc_stamp.specs.Order.{Pair}
use Rattle.hlc_causality.specs.Causality.{Skeleton}
use Rattle.hlc_causality.specs.Chain.{IsChainOf, IsForcing, IsOrigin}
use Rattle.hlc_causality.specs.ClockChain.{IsClockChainOf, IsClockForcing, IsClockOrigin}
use Rattle.hlc_causality.specs.ClockEvents.{ClockEvents}

-- the answer is the forcing event of f, or None if f has none
abbrev pub NamesForcing : Skeleton → List Pair → ℕ → Option EventId → Type 0
NamesForcing s pairs f None = IsOrigin s pairs f
NamesForcing s pairs f (Some d) = IsForcing s pairs d.0 f

-- the chain of e begins with an origin
abbrev pub HasOrigin : Skeleton → List Pair → ℕ → ℕ → Type 0
HasOrigin s pairs e origin = (rest : List ℕ) × IsChainOf s pairs e (origin ∷ rest)

-- the same by floors and ticks: the answer is the forcing event of f, or None if f has none
abbrev pub NamesClockForcing : ClockEvents → List Pair → ℕ → Option EventId → Type 0
NamesClockForcing t pairs f None = IsClockOrigin t pairs f
NamesClockForcing t pairs f (Some d) = IsClockForcing t pairs d.0 f

-- the chain of e begins with an origin
abbrev pub HasClockOrigin : ClockEvents → List Pair → ℕ → ℕ → Type 0
HasClockOrigin t pairs e origin = (rest : List ℕ) × IsClockChainOf t pairs e (origin ∷ rest)
