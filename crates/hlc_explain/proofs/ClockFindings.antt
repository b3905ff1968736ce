-- Origins and drift by functions agree with the relations, by floors and ticks.
use Rattle.std.proofs.Common.{◌≡◌, ◌∙◌, ℕ, ◌<◌, List, [], ◌∷◌, length, Option, Some, None, arith, ap, get_or, refl, subst}
use Rattle.std.specs.Prelude.{MatchOption, option_map}
use Rattle.hlc_stamp.specs.Order.{Pair}
use Rattle.hlc_causality.specs.Causality.{Skeleton}
use Rattle.hlc_causality.specs.ClockChain.{IsClockChainOf}
use Rattle.hlc_causality.specs.ClockEvents.{ClockEvents}
use Rattle.hlc_causality.specs.Forcing.{HasClockOrigin}
use Rattle.hlc_causality.specs.NodeEvents.{HasNoEvent, IsFurthestAhead, drift_at}
use Rattle.hlc_causality.proofs.ClockChains.{clock_chain_of_exists}
use Rattle.hlc_causality.proofs.FollowedClockChains.{clock_chain_is_followed}
use Rattle.hlc_causality.proofs.NodeEvents.{furthest_is_unique}
use Rattle.hlc_explain.specs.ClockFindings.{ClockDriftsAreFound, clock_drift_at, clock_node_drift, clock_origin_of}
use Rattle.hlc_explain.specs.Drift.{IsClockDriftOf}
use Rattle.hlc_explain.specs.Findings.{furthest_before}
use Rattle.hlc_explain.specs.declared.answers.Drift.{Drift}
use Rattle.hlc_explain.proofs.Findings.{furthest_is_found}

-- what begins the chain of an event is its origin
clock_origin_is : (t : ClockEvents) (pairs : List Pair) (e origin : ℕ) → e < length t → HasClockOrigin t pairs e origin
    → origin ≡ clock_origin_of t pairs e
clock_origin_is t pairs e origin exists has =
    ap (λ (chain : List ℕ). get_or chain 0 e) (clock_chain_is_followed t pairs e (origin ∷ has.0) exists has.1)

clock_origin_from : (t : ClockEvents) (pairs : List Pair) (e : ℕ) (chain : List ℕ) → e < length t → IsClockChainOf t pairs e chain
    → HasClockOrigin t pairs e (clock_origin_of t pairs e)
clock_origin_from t pairs e [] exists h = absurd h
clock_origin_from t pairs e (origin ∷ rest) exists h =
    subst (HasClockOrigin t pairs e) (clock_origin_is t pairs e origin exists (rest, h)) (rest, h)

origin_begins : (t : ClockEvents) (pairs : List Pair) (e : ℕ) → e < length t → HasClockOrigin t pairs e (clock_origin_of t pairs e)
origin_begins t pairs e exists = let chain = clock_chain_of_exists t pairs e exists in clock_origin_from t pairs e chain.0 exists chain.1

module _ (s : Skeleton) (t : ClockEvents) (pairs : List Pair) (node : ℕ) (size : length t ≡ length s) where
  found_drift : (o : Option ℕ) → MatchOption o (HasNoEvent s node) (λ e. IsFurthestAhead s pairs node e)
      → MatchOption (option_map (clock_drift_at s t pairs) o) (HasNoEvent s node) (λ drift. IsClockDriftOf s t pairs node drift)
  found_drift None none = none
  found_drift (Some e) furthest = record {
    furthest = furthest;
    ahead = refl;
    origin = origin_begins t pairs e (omega (arith, furthest.event.exists, size));
  }

  same_drift : (found : Option Drift) (o : Option ℕ) → MatchOption found (HasNoEvent s node) (λ drift. IsClockDriftOf s t pairs node drift)
      → MatchOption o (HasNoEvent s node) (λ e. IsFurthestAhead s pairs node e) → found ≡ option_map (clock_drift_at s t pairs) o
  same_drift None None none other = refl
  same_drift None (Some e) none furthest = absurd (none e furthest.event)
  same_drift (Some drift) None is none = absurd (none drift.event.0 is.furthest.event)
  same_drift (Some drift) (Some e) is furthest =
      let event : drift.event.0 ≡ e = furthest_is_unique s pairs node drift.event.0 e is.furthest furthest in
      let ahead : drift.ahead ≡ drift_at s pairs e = is.ahead ∙ ap (drift_at s pairs) event in
      let exists : drift.event.0 < length t = omega (arith, is.furthest.event.exists, size) in
      let origin : drift.origin.0 ≡ clock_origin_of t pairs e =
      clock_origin_is t pairs drift.event.0 drift.origin.0 exists is.origin ∙ ap (clock_origin_of t pairs) event in
      λ i. Some (record { ahead = ahead i; event = record { 0 = event i }; origin = record { 0 = origin i } })

  -- the drift of a node is the one that is found
  pub clock_drift_is : (found : Option Drift) → MatchOption found (HasNoEvent s node) (λ drift. IsClockDriftOf s t pairs node drift)
      → found ≡ clock_node_drift s t pairs node
  clock_drift_is found h = same_drift found (furthest_before s pairs node (length s)) h (furthest_is_found s pairs node)

pub clock_drifts_are_found : ClockDriftsAreFound
clock_drifts_are_found s t pairs node size =
    found_drift s t pairs node size (furthest_before s pairs node (length s)) (furthest_is_found s pairs node)
