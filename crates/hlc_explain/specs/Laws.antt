-- The laws of explanations.
use Rattle.std.specs.Prelude.{◌≡◌, ℕ, List}
use Rattle.hlc_stamp.specs.Order.{Pair}
use Rattle.hlc_causality.specs.Causality.{Skeleton}
use Rattle.hlc_explain.specs.declared.answers.Drift.{Drift}
use Rattle.hlc_explain.specs.Drift.{IsDriftOf}

-- a node has one drift
abbrev pub DriftIsUnique : Type 0
DriftIsUnique = (s : Skeleton) (pairs : List Pair) (node : ℕ) (drift other : Drift) →
    IsDriftOf s pairs node drift → IsDriftOf s pairs node other → drift ≡ other
