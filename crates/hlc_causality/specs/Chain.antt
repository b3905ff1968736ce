-- Chains of direct predecessors: they force a pair, and explain a stamp.
use Rattle.std.specs.Prelude.{◌≡◌, ℕ, ◌+◌, ◌<◌, ◌⊎◌, List, [], ◌∷◌, length}
use Rattle.hlc_stamp.specs.Order.{Pair}
use Rattle.hlc_causality.specs.Assignment.{pair_at}
use Rattle.hlc_causality.specs.Causality.{IsPrevious, IsSendOf, Skeleton, skeleton_at}
use Rattle.hlc_causality.specs.Past.{LeadsTo}

-- e reads p.l, and p.c further events lead from it to f by direct predecessors
pub record IsChainFrom (s : Skeleton) (p : Pair) (e : ℕ) (rest : List ℕ) (f : ℕ) : Type 0 where
  pub exists : e < length s
  pub reads : (skeleton_at s e).reading ≡ p.l
  pub counts : length rest ≡ p.c
  pub linked : LeadsTo s e rest f

-- a chain for p may begin with the event at e and have so many further events
pub record BeginsChain (s : Skeleton) (e further : ℕ) (p : Pair) : Type 0 where
  pub exists : e < length s
  pub reads : (skeleton_at s e).reading ≡ p.l
  pub counts : further ≡ p.c

-- a chain for p at f: p.c + 1 events, the first reading p.l, each a direct predecessor of the next, and the last f
abbrev pub IsChain : Skeleton → Pair → ℕ → List ℕ → Type 0
IsChain s p f [] = ⊥
IsChain s p f (e ∷ rest) = IsChainFrom s p e rest f

-- p has the same l as q, and a c that is one less
abbrev pub IsOneBefore : Pair → Pair → Type 0
IsOneBefore p q = (p.l ≡ q.l) × (p.c + 1 ≡ q.c)

-- d is the previous event of f's node, and has the pair one before f's
pub record IsPreviousOneBefore (s : Skeleton) (pairs : List Pair) (d f : ℕ) : Type 0 where
  pub previous : IsPrevious s d f
  pub one_before : IsOneBefore (pair_at pairs d) (pair_at pairs f)

-- f has no previous event with the pair one before
abbrev pub NoPreviousOneBefore : Skeleton → List Pair → ℕ → Type 0
NoPreviousOneBefore s pairs f = (d : ℕ) → ¬ IsPreviousOneBefore s pairs d f

-- d is the forcing event of f: c of f isn't 0, and d is the previous event if that has the pair one before, else the send
pub record IsForcing (s : Skeleton) (pairs : List Pair) (d f : ℕ) : Type 0 where
  pub above_zero : 0 < (pair_at pairs f).c
  pub event : IsPreviousOneBefore s pairs d f ⊎ (NoPreviousOneBefore s pairs f × IsSendOf s d f)

-- e has no forcing event
abbrev pub IsOrigin : Skeleton → List Pair → ℕ → Type 0
IsOrigin s pairs e = (d : ℕ) → ¬ IsForcing s pairs d e

-- from e on, each event is the forcing event of the next, up to f
abbrev pub ForcesAlong : Skeleton → List Pair → ℕ → List ℕ → ℕ → Type 0
ForcesAlong s pairs e [] f = e ≡ f
ForcesAlong s pairs e (m ∷ rest) f = IsForcing s pairs e m × ForcesAlong s pairs m rest f

-- e is the origin of f: it has no forcing event, and by rest each event is the forcing event of the next, up to f
pub record IsOriginOf (s : Skeleton) (pairs : List Pair) (e : ℕ) (rest : List ℕ) (f : ℕ) : Type 0 where
  pub exists : e < length s
  pub origin : IsOrigin s pairs e
  pub forces : ForcesAlong s pairs e rest f

-- the chain of f: f with its forcing events, followed back to its origin, which comes first
abbrev pub IsChainOf : Skeleton → List Pair → ℕ → List ℕ → Type 0
IsChainOf s pairs f [] = ⊥
IsChainOf s pairs f (e ∷ rest) = IsOriginOf s pairs e rest f
