-- Each skeleton has one least assignment, place by place, and its prefixes are least.
use Rattle.std.proofs.Common.{◌≡◌, ℕ, List, [], ◌∷◌, ◌++◌, length, take, arith, subst, sym}
use Rattle.std.proofs.lemmas.List.{map-append, take-map}
use Rattle.hlc_stamp.specs.Order.{Pair}
use Rattle.hlc_causality.specs.Assignment.{EachIsLeastAbove, IsLeast, pair_at}
use Rattle.hlc_causality.specs.Causality.{Skeleton}
use Rattle.hlc_causality.specs.ClockEvents.{ClockEvents, ticking, ticking_event}
use Rattle.hlc_causality.specs.Feasible.{IsLeastFeasible, IsLeastFeasibleAt}
use Rattle.hlc_causality.specs.Laws.{AllowedPastIsNotLow, LeastListExists, LeastListIsUnique, LeastPlaceByPlace, OneMoreStaysLeast, PrefixesAreLeast}
use Rattle.hlc_causality.specs.LeastPairs.{least_pairs}
use Rattle.hlc_causality.specs.Past.{IsInPast}
use Rattle.hlc_causality.proofs.Allowed.{least_from_each}
use Rattle.hlc_causality.proofs.ClockEvents.{ticking_size}
use Rattle.hlc_causality.proofs.LeastFeasible.{each_from_least_feasible, feasible_past_is_not_low, least_feasible_is_computed, least_feasible_is_unique, one_more_stays_least_feasible, prefixes_are_least_feasible}
use Rattle.hlc_causality.proofs.Ticking.{from_events, ticking_feasible_at_is_allowed_at, ticking_least_at_is_least_above, ticking_least_is_least, ticking_pairs_are_least_pairs}

-- the least pairs are the least list
pub least_pairs_are_least : (s : Skeleton) → IsLeast s (least_pairs s)
least_pairs_are_least s =
    (ticking_least_is_least s (least_pairs s)).1
    (subst (λ (pairs : List Pair). IsLeastFeasible (ticking s) pairs) (ticking_pairs_are_least_pairs s) (least_feasible_is_computed (ticking s)))

pub least_list_exists : LeastListExists
least_list_exists s = (least_pairs s, least_pairs_are_least s)

pub least_list_is_unique : LeastListIsUnique
least_list_is_unique s pairs others a b =
    least_feasible_is_unique (ticking s) pairs others ((ticking_least_is_least s pairs).0 a) ((ticking_least_is_least s others).0 b)

pub each_from_least : (s : Skeleton) (pairs : List Pair) → IsLeast s pairs → EachIsLeastAbove s pairs
each_from_least s pairs least f exists =
    (ticking_least_at_is_least_above s pairs f (pair_at pairs f)).1
    (each_from_least_feasible (ticking s) pairs ((ticking_least_is_least s pairs).0 least) f (omega (arith, ticking_size s)))

pub least_place_by_place : LeastPlaceByPlace
least_place_by_place s pairs = (
  λ least. (least.allowed.one_each, each_from_least s pairs least),
  λ each. least_from_each s pairs each.0 each.1,
)

pub allowed_past_is_not_low : AllowedPastIsNotLow
allowed_past_is_not_low s pairs others f exists least past =
    feasible_past_is_not_low (ticking s) pairs others f (omega (arith, ticking_size s)) ((ticking_least_is_least s pairs).0 least) (λ e h.
    (ticking_feasible_at_is_allowed_at s others e (pair_at others e)).0 (past e (from_events s (λ x. IsInPast x e f) h)))

pub prefixes_are_least : PrefixesAreLeast
prefixes_are_least s pairs n least =
    (ticking_least_is_least (take n s) (take n pairs)).1
    (subst (λ (t : ClockEvents). IsLeastFeasible t (take n pairs)) (take-map ticking_event n s)
    (prefixes_are_least_feasible (ticking s) pairs n ((ticking_least_is_least s pairs).0 least)))

pub one_more_stays_least : OneMoreStaysLeast
one_more_stays_least s pairs x p least new =
    let longer = s ++ x ∷ [] in
    let pushed : ticking longer ≡ ticking s ++ ticking_event x ∷ [] = map-append ticking_event s (x ∷ []) in
    let last : IsLeastFeasibleAt (ticking s ++ ticking_event x ∷ []) pairs (length s) p =
    subst (λ (t : ClockEvents). IsLeastFeasibleAt t pairs (length s) p) pushed ((ticking_least_at_is_least_above longer pairs (length s) p).0 new) in
    let there = subst (λ (n : ℕ). IsLeastFeasibleAt (ticking s ++ ticking_event x ∷ []) pairs n p) (sym (ticking_size s)) last in
    (ticking_least_is_least longer (pairs ++ p ∷ [])).1
    (subst (λ (t : ClockEvents). IsLeastFeasible t (pairs ++ p ∷ [])) (sym pushed)
    (one_more_stays_least_feasible (ticking s) pairs (ticking_event x) p ((ticking_least_is_least s pairs).0 least) there))
