-- Why a node's stamps are so far ahead.
use Rattle.std.proofs.Common.{◌≡◌, ℕ, ◌<◌, List, ◌∷◌, length, arith, subst, sym, ap, ◌∙◌}
use Rattle.hlc_stamp.specs.Order.{Pair}
use Rattle.hlc_causality.specs.Assignment.{IsLeast, pair_at}
use Rattle.hlc_causality.specs.Causality.{Skeleton, skeleton_at}
use Rattle.hlc_causality.specs.ClockEvents.{ClockEvents}
use Rattle.hlc_causality.specs.Feasible.{IsLeastFeasible}
use Rattle.hlc_causality.specs.Forcing.{HasClockOrigin, HasOrigin}
use Rattle.hlc_causality.specs.NodeEvents.{drift_at}
use Rattle.hlc_causality.specs.Past.{IsGreatestReading}
use Rattle.hlc_causality.proofs.ClockChains.{clock_chain_of_is_chain}
use Rattle.hlc_causality.proofs.ForcedChains.{chain_of_is_chain}
use Rattle.hlc_causality.proofs.LeastFeasible.{l_is_greatest_floor}
use Rattle.hlc_causality.proofs.LeastPairs.{l_is_greatest_reading}
use Rattle.hlc_causality.proofs.NodeEvents.{furthest_is_unique}
use Rattle.hlc_explain.specs.declared.answers.Drift.{Drift}
use Rattle.hlc_explain.specs.Drift.{IsClockDriftExplained, IsDriftExplained}
use Rattle.hlc_explain.specs.Laws.{DriftIsUnique}
use Rattle.hlc_explain.specs.Summaries.{origin_of}
use Rattle.hlc_explain.proofs.Origins.{origin_is}

pub drift_explained :
    (s : Skeleton) (pairs : List Pair) (drift : Drift) → drift.event.0 < length s → IsLeast s pairs →
    drift.ahead ≡ drift_at s pairs drift.event.0 → HasOrigin s pairs drift.event.0 drift.origin.0 → IsDriftExplained s drift
drift_explained s pairs drift exists least ahead origin =
    let e = drift.event.0 in
    let chain = chain_of_is_chain s pairs e (drift.origin.0 ∷ origin.0) least origin.1 in
    let reads : (skeleton_at s drift.origin.0).reading ≡ (pair_at pairs e).l = chain.reads in
    let behind = least.allowed.not_behind e exists in
    record {
      origin_leads = omega arith;
      none_leads_more = subst (λ (n : ℕ). IsGreatestReading s e n) (sym reads) (l_is_greatest_reading s pairs e exists least);
    }

pub clock_drift_explained :
    (t : ClockEvents) (pairs : List Pair) (drift : Drift) → drift.event.0 < length t → IsLeastFeasible t pairs → HasClockOrigin t pairs drift.event.0 drift.origin.0 →
    IsClockDriftExplained t pairs drift
clock_drift_explained t pairs drift exists least origin =
    let e = drift.event.0 in
    let chain = clock_chain_of_is_chain t pairs e (drift.origin.0 ∷ origin.0) least origin.1 in
    record {
      origin_leads = chain.floor;
      none_leads_more = l_is_greatest_floor t pairs e exists least;
    }

pub drift_is_unique : DriftIsUnique
drift_is_unique s pairs node drift other a b =
    let event : drift.event.0 ≡ other.event.0 = furthest_is_unique s pairs node drift.event.0 other.event.0 a.furthest b.furthest in
    let ahead : drift.ahead ≡ other.ahead = a.ahead ∙ ap (drift_at s pairs) event ∙ sym b.ahead in
    let origin : drift.origin.0 ≡ other.origin.0 =
    origin_is s pairs drift.event.0 drift.origin.0 a.furthest.event.exists a.origin
    ∙ ap (origin_of s pairs) event
    ∙ sym (origin_is s pairs other.event.0 other.origin.0 b.furthest.event.exists b.origin) in
    λ i. record { ahead = ahead i; event = record { 0 = event i }; origin = record { 0 = origin i } }
