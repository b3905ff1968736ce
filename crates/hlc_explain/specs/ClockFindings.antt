-- Origins and drift by functions, by floors and ticks.
use Rattle.std.specs.Prelude.{ℕ, List, MatchOption, Option, length, option_map, slice_index_or, ◌≡◌}
use Rattle.hlc_stamp.specs.Order.{Pair}
use Rattle.hlc_causality.specs.Causality.{Skeleton}
use Rattle.hlc_causality.specs.ClockEvents.{ClockEvents}
use Rattle.hlc_causality.specs.FollowedClockChains.{clock_chain_of}
use Rattle.hlc_causality.specs.NodeEvents.{HasNoEvent, drift_at}
use Rattle.hlc_explain.specs.declared.answers.Drift.{Drift}
use Rattle.hlc_explain.specs.Drift.{IsClockDriftOf}
use Rattle.hlc_explain.specs.Findings.{furthest_before}

-- the origin of the event at e: the first of its chain
abbrev pub clock_origin_of : ClockEvents → List Pair → ℕ → ℕ
clock_origin_of t pairs e = slice_index_or (clock_chain_of t pairs e) 0 e

-- the drift of the event at e, with the event and its origin
abbrev pub clock_drift_at : Skeleton → ClockEvents → List Pair → ℕ → Drift
clock_drift_at s t pairs e =
    record { ahead = drift_at s pairs e; event = record { 0 = e }; origin = record { 0 = clock_origin_of t pairs e } }

-- the drift of a node: that of the first event of greatest drift among all its events, if it has any
abbrev pub clock_node_drift : Skeleton → ClockEvents → List Pair → ℕ → Option Drift
clock_node_drift s t pairs node = option_map (clock_drift_at s t pairs) (furthest_before s pairs node (length s))

-- the drift that is found is that of the node
abbrev pub ClockDriftsAreFound : Type 0
ClockDriftsAreFound = (s : Skeleton) (t : ClockEvents) (pairs : List Pair) (node : ℕ) → length t ≡ length s →
    MatchOption (clock_node_drift s t pairs node) (HasNoEvent s node) (λ drift. IsClockDriftOf s t pairs node drift)
