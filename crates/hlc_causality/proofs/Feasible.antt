-- What is feasible, or least, at each place is so as a whole.
use Rattle.std.proofs.Common.{◌≡◌, ℕ, zero, suc, ◌<◌, ◌⊎◌, inl, inr, List, length, arith, refl, subst, sym}
use Rattle.hlc_stamp.specs.Order.{IsAtMost, Pair}
use Rattle.hlc_stamp.proofs.OrderLaws.{at_most_trans}
use Rattle.hlc_causality.specs.Assignment.{pair_at}
use Rattle.hlc_causality.specs.Causality.{IsDirectPredecessor, IsPrevious, IsSendOf}
use Rattle.hlc_causality.specs.ClockEvents.{ClockEvents, clock_event_at, clock_skeleton}
use Rattle.hlc_causality.specs.Feasible.{EachIsLeastFeasible, Follows, IsFeasibleAt, IsLeastFeasible, IsLeastFeasibleAt}
use Rattle.hlc_causality.specs.FloorLaws.{FeasibleCutsAreClosed, FeasibleNeverFalls}
use Rattle.hlc_causality.specs.LeastFeasible.{greater_next, least_feasible_at, next_pair}
use Rattle.hlc_causality.specs.Past.{IsInPast}
use Rattle.hlc_causality.specs.Predecessors.{previous_of, send_of}
use Rattle.hlc_causality.proofs.ClockEvents.{IsSameAt, clock_event_exists, same_at_back, skeleton_size}
use Rattle.hlc_causality.proofs.NextPairs.{IsLeastAfter, at_most_follows, at_most_from_follows, follows_at_most, greater_next_is}
use Rattle.hlc_causality.proofs.Pairs.{at_most_antisymm}
use Rattle.hlc_causality.proofs.Past.{direct_happened_before, holds_along, past_exists, past_trans}
use Rattle.hlc_causality.proofs.Predecessors.{direct_earlier, previous_is_unique, send_is_unique}
use Rattle.hlc_causality.proofs.PredecessorsFound.{previous_found, send_found}
use Rattle.hlc_causality.proofs.SamePrefix.{direct_moves, same_back}

pub feasible_never_falls : FeasibleNeverFalls
feasible_never_falls t pairs feasible e f h =
    holds_along (clock_skeleton t) (λ x y. IsAtMost (pair_at pairs x) (pair_at pairs y))
    (λ x y z. at_most_trans (pair_at pairs x) (pair_at pairs y) (pair_at pairs z))
    (λ x y step.
    at_most_from_follows (clock_event_at t y).ticks (pair_at pairs x) (pair_at pairs y)
    ((feasible.each y (clock_event_exists t x y step)).follows x step)) e f h

pub feasible_cuts_are_closed : FeasibleCutsAreClosed
feasible_cuts_are_closed t pairs cut feasible e f h in_cut =
    at_most_trans (pair_at pairs e) (pair_at pairs f) cut (feasible_never_falls t pairs feasible e f h) in_cut

not_low :
    (t : ClockEvents) (pairs others : List Pair) → EachIsLeastFeasible t pairs → (n f : ℕ) → f < n → f < length t →
    ((e : ℕ) → IsInPast (clock_skeleton t) e f → IsFeasibleAt t others e (pair_at others e)) → IsAtMost (pair_at pairs f) (pair_at others f)
not_low t pairs others each zero f lt exists past = absurd (omega (arith, lt))
not_low t pairs others each (suc n) f lt exists past =
    let s = clock_skeleton t in
    let here = past f (inl refl) in
    (each f exists).least (pair_at others f) (record {
      not_below = here.not_below;
      follows = λ d h.
          let earlier = direct_earlier s d f h in
          at_most_follows (clock_event_at t f).ticks (pair_at pairs d) (pair_at others d) (pair_at others f)
          (not_low t pairs others each n d (omega arith) (omega arith) (λ e k. past e (past_trans s e d f k (inr (direct_happened_before s d f h)))))
          (here.follows d h);
    })

-- each other assignment that is feasible at f and in its past isn't lower at f
pub feasible_past_is_not_lower :
    (t : ClockEvents) (pairs others : List Pair) (f : ℕ) → f < length t → EachIsLeastFeasible t pairs →
    ((e : ℕ) → IsInPast (clock_skeleton t) e f → IsFeasibleAt t others e (pair_at others e)) → IsAtMost (pair_at pairs f) (pair_at others f)
feasible_past_is_not_lower t pairs others f exists each past = not_low t pairs others each (suc f) f (omega arith) exists past

pub least_feasible_from_each : (t : ClockEvents) (pairs : List Pair)
    → length pairs ≡ length t → EachIsLeastFeasible t pairs → IsLeastFeasible t pairs
least_feasible_from_each t pairs same each = record {
  feasible = record { one_each = same; each = λ f exists. (each f exists).feasible };
  least = λ others feasible f exists. feasible_past_is_not_lower t pairs others f exists each (λ e h.
      let size = skeleton_size t in
      let there = past_exists (clock_skeleton t) e f (omega arith) h in
      feasible.each e (omega arith));
}

-- p is the floor of f, or next to the pair of a direct predecessor
abbrev pub HasSource : ClockEvents → List Pair → ℕ → Pair → Type 0
HasSource t pairs f p =
    (p ≡ (clock_event_at t f).floor)
    ⊎ ((d : ℕ) × IsDirectPredecessor (clock_skeleton t) d f × (next_pair (clock_event_at t f).ticks (pair_at pairs d) ≡ p))

-- what is least after the previous event's pair and then after the send's is least, and comes from there
least_after_both :
    (t : ClockEvents) (pairs : List Pair) (f : ℕ) (p r : Pair) →
    IsLeastAfter (clock_event_at t f).ticks pairs (λ d. IsPrevious (clock_skeleton t) d f) (clock_event_at t f).floor p →
    IsLeastAfter (clock_event_at t f).ticks pairs (λ d. IsSendOf (clock_skeleton t) d f) p r →
    IsLeastFeasibleAt t pairs f r × HasSource t pairs f r
least_after_both t pairs f p r own sent = (
  record {
    feasible = record {
      not_below = at_most_trans (clock_event_at t f).floor p r own.at_least sent.at_least;
      follows = λ d h. elim h [
        | inl previous ↦ follows_at_most (clock_event_at t f).ticks (pair_at pairs d) p r (own.follows d previous) sent.at_least
        | inr send ↦ sent.follows d send
      ];
    };
    least = λ q h. sent.least q (own.least q h.not_below (λ d previous. h.follows d (inl previous))) (λ d send. h.follows d (inr send));
  },
  elim sent.source [
    | inr from ↦ inr (from.0, inr from.1, from.2)
    | inl same ↦ subst (λ (x : Pair). HasSource t pairs f x) (sym same) (elim own.source [
      | inl floor ↦ inl floor
      | inr from ↦ inr (from.0, inl from.1, from.2)
    ])
  ],
)

least_with_source : (t : ClockEvents) (pairs : List Pair) (f : ℕ) → f < length t
    → IsLeastFeasibleAt t pairs f (least_feasible_at t pairs f) × HasSource t pairs f (least_feasible_at t pairs f)
least_with_source t pairs f lt =
    let s = clock_skeleton t in
    let x = clock_event_at t f in
    let exists : f < length s = omega (arith, skeleton_size t) in
    let p = greater_next x.ticks pairs x.floor (previous_of s f) in
    least_after_both t pairs f p (greater_next x.ticks pairs p (send_of s f))
    (greater_next_is x.ticks pairs (λ d. IsPrevious s d f) x.floor (previous_of s f) (λ d e. previous_is_unique s d e f) (previous_found s f exists))
    (greater_next_is x.ticks pairs (λ d. IsSendOf s d f) p (send_of s f) (λ d e. send_is_unique s d e f) (send_found s f exists))

pub least_feasible_at_is : (t : ClockEvents) (pairs : List Pair) (f : ℕ) → f < length t
    → IsLeastFeasibleAt t pairs f (least_feasible_at t pairs f)
least_feasible_at_is t pairs f exists = (least_with_source t pairs f exists).0

least_feasible_at_is_unique : (t : ClockEvents) (pairs : List Pair) (f : ℕ) (p q : Pair)
    → IsLeastFeasibleAt t pairs f p → IsLeastFeasibleAt t pairs f q → p ≡ q
least_feasible_at_is_unique t pairs f p q a b = at_most_antisymm p q (a.least q b.feasible) (b.least p a.feasible)

-- a least pair is the floor, or next to the pair of a direct predecessor
pub least_feasible_source : (t : ClockEvents) (pairs : List Pair) (f : ℕ) (p : Pair)
    → f < length t → IsLeastFeasibleAt t pairs f p → HasSource t pairs f p
least_feasible_source t pairs f p exists least =
    let other = least_with_source t pairs f exists in
    subst (λ (x : Pair). HasSource t pairs f x) (least_feasible_at_is_unique t pairs f (least_feasible_at t pairs f) p other.0 least) other.1

-- what is feasible at f stays so where the events are the same up to f and the pairs are the same below f
feasible_at_moves :
    (t u : ClockEvents) (pairs others : List Pair) (f : ℕ) (p : Pair) → IsSameAt t u f
    → ((d : ℕ) → d < f → pair_at pairs d ≡ pair_at others d) →
    IsFeasibleAt t pairs f p → IsFeasibleAt u others f p
feasible_at_moves t u pairs others f p same pairs_same h = record {
  not_below = subst (λ x. IsAtMost x.floor p) same.event h.not_below;
  follows = λ d direct.
      let back =
      direct_moves (clock_skeleton u) (clock_skeleton t) f (same_back (clock_skeleton t) (clock_skeleton u) f same.skeletons) d direct in
      let earlier = direct_earlier (clock_skeleton t) d f back in
      subst (λ x. Follows x.ticks (pair_at others d) p) same.event
      (subst (λ (x : Pair). Follows (clock_event_at t f).ticks x p) (pairs_same d earlier) (h.follows d back));
}

pub least_feasible_at_moves :
    (t u : ClockEvents) (pairs others : List Pair) (f : ℕ) (p : Pair) → IsSameAt t u f
    → ((d : ℕ) → d < f → pair_at pairs d ≡ pair_at others d) →
    IsLeastFeasibleAt t pairs f p → IsLeastFeasibleAt u others f p
least_feasible_at_moves t u pairs others f p same pairs_same h = record {
  feasible = feasible_at_moves t u pairs others f p same pairs_same h.feasible;
  least = λ q a. h.least q (feasible_at_moves u t others pairs f q (same_at_back t u f same) (λ d lt. sym (pairs_same d lt)) a);
}
