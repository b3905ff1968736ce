-- What the numbers of a least pair say, and cuts by pairs.
use Rattle.std.proofs.Common.{ℕ, zero, suc, ◌<◌, ◌≤◌, inl, inr, List, length, arith}
use Rattle.hlc_stamp.specs.Order.{IsAtMost, Pair}
use Rattle.hlc_causality.specs.Assignment.{EachIsLeastAbove, pair_at}
use Rattle.hlc_causality.specs.Causality.{Skeleton}
use Rattle.hlc_causality.specs.ClockEvents.{ticking}
use Rattle.hlc_causality.specs.Laws.{CounterIsAtMostPlace, CutsAreClosed, LIsGreatestReading}
use Rattle.hlc_causality.specs.Past.{IsConsistentCut, IsGreatestReading}
use Rattle.hlc_causality.proofs.ClockEvents.{ticking_size}
use Rattle.hlc_causality.proofs.Feasible.{feasible_cuts_are_closed}
use Rattle.hlc_causality.proofs.LeastAbove.{least_above_source}
use Rattle.hlc_causality.proofs.LeastFeasible.{l_is_greatest_floor}
use Rattle.hlc_causality.proofs.LeastList.{each_from_least}
use Rattle.hlc_causality.proofs.Predecessors.{direct_earlier}
use Rattle.hlc_causality.proofs.Ticking.{from_events, ticking_feasible_is_allowed, ticking_least_is_least}

pub l_is_greatest_reading : LIsGreatestReading
l_is_greatest_reading s pairs f exists least =
    from_events s (λ x. IsGreatestReading x f (pair_at pairs f).l)
    (l_is_greatest_floor (ticking s) pairs f (omega (arith, ticking_size s)) ((ticking_least_is_least s pairs).0 least))

counter_below : (s : Skeleton) (pairs : List Pair) → EachIsLeastAbove s pairs → (n f : ℕ) → f < n → f < length s → (pair_at pairs f).c ≤ f
counter_below s pairs each zero f lt exists = absurd (omega (arith, lt))
counter_below s pairs each (suc n) f lt exists =
    elim (least_above_source s pairs f (pair_at pairs f) exists (each f exists)) [
      | inl own ↦ omega (arith, own.1)
      | inr from ↦
          let earlier = direct_earlier s from.0 f from.1 in
          let before = counter_below s pairs each n from.0 (omega arith) (omega arith) in
          omega (arith, from.2.1, before)
    ]

pub counter_is_at_most_place : CounterIsAtMostPlace
counter_is_at_most_place s pairs f exists least = counter_below s pairs (each_from_least s pairs least) (suc f) f (omega arith) exists

pub cuts_are_closed : CutsAreClosed
cuts_are_closed s pairs cut allowed =
    from_events s (λ x. IsConsistentCut x (λ e. IsAtMost (pair_at pairs e) cut))
    (feasible_cuts_are_closed (ticking s) pairs cut ((ticking_feasible_is_allowed s pairs).0 allowed))
