-- How far a node's stamps ran ahead of its clock, by those of its events whose reading is told.
use Rattle.std.specs.Prelude.{◌≡◌, ◌==◌, ◌&&◌, Bool, true, ℕ, zero, suc, ◌<◌, ◌≤◌, List, MatchOption, Option, Some, None, if◌then◌else◌, length, option_map}
use Rattle.hlc_stamp.specs.Order.{Pair}
use Rattle.hlc_causality.specs.Causality.{Skeleton, skeleton_at}
use Rattle.hlc_causality.specs.ClockEvents.{ClockEvents}
use Rattle.hlc_causality.specs.Forcing.{HasClockOrigin}
use Rattle.hlc_causality.specs.NodeEvents.{IsEventOf, drift_at}
use Rattle.hlc_explain.specs.ClockFindings.{clock_drift_at}
use Rattle.hlc_explain.specs.Findings.{further_ahead}
use Rattle.hlc_explain.specs.declared.answers.Drift.{Drift}

-- the event at e is a node's, and its reading is told
pub record IsToldOf (s : Skeleton) (told : ℕ → Bool) (node e : ℕ) : Type 0 where
  pub event : IsEventOf s node e
  pub is_told : told e ≡ true

-- of no event of a node a reading is told
abbrev pub HasNoneTold : Skeleton → (told : ℕ → Bool) → ℕ → Type 0
HasNoneTold s told node = (e : ℕ) → ¬ IsToldOf s told node e

-- the event at e is the first of greatest drift among those of a node's events whose reading is told
pub record IsFurthestTold (s : Skeleton) (told : ℕ → Bool) (pairs : List Pair) (node e : ℕ) : Type 0 where
  pub event : IsToldOf s told node e
  pub none_greater : (d : ℕ) → IsToldOf s told node d → drift_at s pairs d ≤ drift_at s pairs e
  pub first : (d : ℕ) → IsToldOf s told node d → d < e → drift_at s pairs d < drift_at s pairs e

-- the drift of a node: that of this event, with the event and its origin
pub record IsToldDriftOf (s : Skeleton) (t : ClockEvents) (told : ℕ → Bool) (pairs : List Pair) (node : ℕ) (drift : Drift) : Type 0 where
  pub furthest : IsFurthestTold s told pairs node drift.event.0
  pub ahead : drift.ahead ≡ drift_at s pairs drift.event.0
  pub origin : HasClockOrigin t pairs drift.event.0 drift.origin.0

-- an answer is that, or None if no event of the node has a told reading
abbrev pub NamesToldDrift : Skeleton → ClockEvents → (told : ℕ → Bool) → List Pair → (node : ℕ) → Option Drift → Type 0
NamesToldDrift s t told pairs node found = MatchOption found (HasNoneTold s told node) (λ drift. IsToldDriftOf s t told pairs node drift)

-- the first event of greatest drift among those of a node's events before a place whose reading is told
abbrev pub furthest_told : Skeleton → (told : ℕ → Bool) → List Pair → (node n : ℕ) → Option ℕ
furthest_told s told pairs node zero = None
furthest_told s told pairs node (suc n) =
    if ((skeleton_at s n).node == node) && told n then Some (further_ahead s pairs (furthest_told s told pairs node n) n)
    else furthest_told s told pairs node n

-- the drift of a node as a function
abbrev pub told_drift : Skeleton → ClockEvents → (told : ℕ → Bool) → List Pair → (node : ℕ) → Option Drift
told_drift s t told pairs node = option_map (clock_drift_at s t pairs) (furthest_told s told pairs node (length s))
