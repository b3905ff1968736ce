-- What is allowed, or least, at each place is so as a whole.
use Rattle.std.proofs.Common.{◌≡◌, List, length, arith, sym, ◌∙◌}
use Rattle.hlc_stamp.specs.Order.{Pair}
use Rattle.hlc_causality.specs.Assignment.{EachIsAllowed, EachIsLeastAbove, IsAllowed, IsLeast, pair_at}
use Rattle.hlc_causality.specs.Causality.{Skeleton}
use Rattle.hlc_causality.specs.ClockEvents.{ticking}
use Rattle.hlc_causality.specs.Laws.{AllowedPlaceByPlace}
use Rattle.hlc_causality.proofs.ClockEvents.{ticking_size}
use Rattle.hlc_causality.proofs.Feasible.{least_feasible_from_each}
use Rattle.hlc_causality.proofs.Past.{direct_happened_before}
use Rattle.hlc_causality.proofs.Ticking.{ticking_feasible_at_is_allowed_at, ticking_feasible_is_allowed, ticking_least_at_is_least_above, ticking_least_is_least}

pub allowed_from_each : (s : Skeleton) (pairs : List Pair) → length pairs ≡ length s → EachIsAllowed s pairs → IsAllowed s pairs
allowed_from_each s pairs same each = (ticking_feasible_is_allowed s pairs).1 (record {
  one_each = same ∙ sym (ticking_size s);
  each = λ f exists. (ticking_feasible_at_is_allowed_at s pairs f (pair_at pairs f)).0 (each f (omega (arith, ticking_size s)));
})

pub each_from_allowed : (s : Skeleton) (pairs : List Pair) → IsAllowed s pairs → EachIsAllowed s pairs
each_from_allowed s pairs allowed f exists = record {
  above = λ d h. allowed.rising d f (direct_happened_before s d f h);
  not_behind = allowed.not_behind f exists;
}

pub allowed_place_by_place : AllowedPlaceByPlace
allowed_place_by_place s pairs = (
  λ allowed. (allowed.one_each, each_from_allowed s pairs allowed),
  λ each. allowed_from_each s pairs each.0 each.1,
)

pub least_from_each : (s : Skeleton) (pairs : List Pair) → length pairs ≡ length s → EachIsLeastAbove s pairs → IsLeast s pairs
least_from_each s pairs same each =
    (ticking_least_is_least s pairs).1 (least_feasible_from_each (ticking s) pairs (same ∙ sym (ticking_size s)) (λ f exists.
    (ticking_least_at_is_least_above s pairs f (pair_at pairs f)).0 (each f (omega (arith, ticking_size s)))))
