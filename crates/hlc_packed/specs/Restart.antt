-- A node that may die at any moment, and begins again at what it has made durable.
use Rattle.std.specs.Prelude.{AllPairs, List, [], ◌∷◌}
use Rattle.hlc_stamp.specs.Order.{IsAtMost, IsBelow, Pair, zero_pair}

-- what a node does: it gives a stamp, its clock sees one, it makes a bound durable, or it dies and begins again
pub data Act : Type 0 where
  Gives : Pair → Act
  Sees : Pair → Act
  Persists : Pair → Act
  Restarts : Act

-- from this clock and durable bound on, each stamp is given above the clock and not above the bound, a clock that sees a stamp doesn't go
-- back, no bound is lower than the one before, and a restarted clock begins at the bound
abbrev pub KeepsBounds : (clock bound : Pair) → List Act → Type 0
KeepsBounds clock bound [] = Unit {0}
KeepsBounds clock bound (Gives stamp ∷ rest) = IsBelow clock stamp × IsAtMost stamp bound × KeepsBounds stamp bound rest
KeepsBounds clock bound (Sees stamp ∷ rest) = IsAtMost clock stamp × KeepsBounds stamp bound rest
KeepsBounds clock bound (Persists next ∷ rest) = IsAtMost bound next × KeepsBounds clock next rest
KeepsBounds clock bound (Restarts ∷ rest) = KeepsBounds bound bound rest

-- the stamps that a node gives
abbrev pub given : List Act → List Pair
given [] = []
given (Gives stamp ∷ rest) = stamp ∷ given rest
given (Sees stamp ∷ rest) = given rest
given (Persists bound ∷ rest) = given rest
given (Restarts ∷ rest) = given rest

-- a new node that keeps its bounds gives each stamp above all that it gave before, whenever it died
abbrev pub RestartsKeepOrder : Type 0
RestartsKeepOrder = (acts : List Act) → KeepsBounds zero_pair zero_pair acts → AllPairs IsBelow (given acts)
