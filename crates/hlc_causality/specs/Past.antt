-- The causal past of an event.
use Rattle.std.specs.Prelude.{◌≡◌, ℕ, ◌≤◌, ◌⊎◌, List, [], ◌∷◌}
use Rattle.hlc_causality.specs.Causality.{HappenedBefore, IsDirectPredecessor, Skeleton, skeleton_at}

-- e is f, or happened before it
abbrev pub IsInPast : Skeleton → ℕ → ℕ → Type 0
IsInPast s e f = (e ≡ f) ⊎ HappenedBefore s e f

-- from e on, each event is a direct predecessor of the next, up to f
abbrev pub LeadsTo : Skeleton → ℕ → List ℕ → ℕ → Type 0
LeadsTo s e [] f = e ≡ f
LeadsTo s e (m ∷ rest) f = IsDirectPredecessor s e m × LeadsTo s m rest f

-- n is the greatest reading of f and of all that happened before it
pub record IsGreatestReading (s : Skeleton) (f n : ℕ) : Type 0 where
  pub reached : (e : ℕ) × IsInPast s e f × ((skeleton_at s e).reading ≡ n)
  pub none_greater : (e : ℕ) → IsInPast s e f → (skeleton_at s e).reading ≤ n

-- a cut, given by which events are in it, has with an event all that happened before it
abbrev pub IsConsistentCut : Skeleton → (ℕ → Type 0) → Type 0
IsConsistentCut s IsInCut = (e f : ℕ) → HappenedBefore s e f → IsInCut f → IsInCut e
