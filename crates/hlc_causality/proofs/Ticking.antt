-- Where each event ticks and has its reading with c 0 as its floor, the theory of floors and ticks is that of readings.
use Rattle.std.proofs.Common.{◌≡◌, ◌↔◌, ℕ, zero, suc, ◌<◌, inl, inr, true, cond, List, [], ◌∷◌, ◌++◌, length, Option, Some, None, arith, refl, subst, sym, ap, ◌∙◌}
use Rattle.std.specs.Prelude.{IsTrue}
use Rattle.hlc_stamp.specs.Order.{IsAtMost, IsBelow, Pair}
use Rattle.hlc_stamp.proofs.OrderLaws.{below_trans}
use Rattle.hlc_causality.specs.Assignment.{IsAllowed, IsAllowedAt, IsLeastAbove, pair_at}
use Rattle.hlc_causality.specs.Causality.{IsDirectPredecessor, IsPrevious, IsSendOf, Skeleton, skeleton_at}
use Rattle.hlc_causality.specs.Chain.{ForcesAlong, IsForcing, IsOneBefore, IsPreviousOneBefore}
use Rattle.hlc_causality.specs.ClockChain.{ClockForcesAlong, IsClockForcing, IsNext, IsPreviousNext, ticks_among}
use Rattle.hlc_causality.specs.ClockEvents.{ClockEvent, ClockEvents, clock_event_at, clock_skeleton, ticking, ticking_event}
use Rattle.hlc_causality.specs.Feasible.{Follows, IsFeasible, IsFeasibleAt, IsLeastFeasibleAt}
use Rattle.hlc_causality.specs.LeastFeasible.{first_least_feasible, greater_next, least_feasible, least_feasible_at, next_pair}
use Rattle.hlc_causality.specs.LeastPairs.{first_least_pairs, least_above, least_at_node, least_pairs, raised_over}
use Rattle.hlc_causality.specs.Past.{LeadsTo}
use Rattle.hlc_causality.specs.Predecessors.{previous_of, send_of}
use Rattle.hlc_causality.specs.TickingLaws.{TickingChainIsChain, TickingChainOfIsChainOf, TickingFeasibleAtIsAllowedAt, TickingFeasibleIsAllowed, TickingForcingIsForcing, TickingLeastAtIsLeastAbove, TickingLeastIsLeast, TickingPairsAreLeastPairs}
use Rattle.hlc_causality.proofs.ClockChains.{ticks_among_more}
use Rattle.hlc_causality.proofs.ClockEvents.{ticking_at, ticking_has_the_skeleton, ticking_size}
use Rattle.hlc_causality.proofs.NextPairs.{raised_is_greater}
use Rattle.hlc_causality.proofs.Pairs.{l_of_at_most, reading_at_most, same_parts}
use Rattle.hlc_causality.proofs.Past.{direct_happened_before, holds_along}
use Rattle.hlc_causality.proofs.Predecessors.{direct_exists}

module _ (s : Skeleton) where
  abbrev t : ClockEvents
  t = ticking s

  same : clock_skeleton t ≡ s
  same = ticking_has_the_skeleton s

  size : length t ≡ length s
  size = ticking_size s

  -- what is said of the event at f
  to_event : (P : ClockEvent → Type 0) (f : ℕ) → P (ticking_event (skeleton_at s f)) → P (clock_event_at t f)
  to_event P f h = subst (λ x. P x) (sym (ticking_at s f)) h

  pub from_event : (P : ClockEvent → Type 0) (f : ℕ) → P (clock_event_at t f) → P (ticking_event (skeleton_at s f))
  from_event P f h = subst (λ x. P x) (ticking_at s f) h

  -- what is said of the skeleton
  to_events : (P : Skeleton → Type 0) → P s → P (clock_skeleton t)
  to_events P h = subst (λ x. P x) (sym same) h

  pub from_events : (P : Skeleton → Type 0) → P (clock_skeleton t) → P s
  from_events P h = subst (λ x. P x) same h

  module _ (pairs : List Pair) where
    feasible_at : (f : ℕ) (p : Pair) → IsAllowedAt s pairs f p ↔ IsFeasibleAt t pairs f p
    feasible_at f p = (
      λ h. record {
        not_below = to_event (λ x. IsAtMost x.floor p) f (reading_at_most (skeleton_at s f).reading p h.not_behind);
        follows = λ d direct. to_event (λ x. Follows x.ticks (pair_at pairs d) p) f (h.above d (from_events (λ x. IsDirectPredecessor x d f) direct));
      },
      λ h. record {
        above = λ d direct. from_event (λ x. Follows x.ticks (pair_at pairs d) p) f (h.follows d (to_events (λ x. IsDirectPredecessor x d f) direct));
        not_behind =
            let floor : Pair = record { l = (skeleton_at s f).reading; c = 0 } in
            l_of_at_most (skeleton_at s f).reading floor p (omega arith) (from_event (λ x. IsAtMost x.floor p) f h.not_below);
      },
    )

    feasible : IsAllowed s pairs ↔ IsFeasible t pairs
    feasible = (
      λ h. record {
        one_each = h.one_each ∙ sym size;
        each = λ f exists. (feasible_at f (pair_at pairs f)).0 (record {
          above = λ d direct. h.rising d f (direct_happened_before s d f direct);
          not_behind = h.not_behind f (omega (arith, size));
        });
      },
      λ h.
          let each : (f : ℕ) → f < length s → IsAllowedAt s pairs f (pair_at pairs f) = λ f exists.
          (feasible_at f (pair_at pairs f)).1 (h.each f (omega (arith, size))) in
          record {
            one_each = h.one_each ∙ size;
            not_behind = λ e exists. (each e exists).not_behind;
            rising =
                holds_along s (λ x y. IsBelow (pair_at pairs x) (pair_at pairs y))
                (λ x y z. below_trans (pair_at pairs x) (pair_at pairs y) (pair_at pairs z))
                (λ x y direct. (each y (direct_exists s x y direct)).above x direct);
          },
    )

    least_at : (f : ℕ) (p : Pair) → IsLeastAbove s pairs f p ↔ IsLeastFeasibleAt t pairs f p
    least_at f p = (
      λ h. record { feasible = (feasible_at f p).0 h.allowed; least = λ q a. h.least q ((feasible_at f q).1 a) },
      λ h. record { allowed = (feasible_at f p).1 h.feasible; least = λ q a. h.least q ((feasible_at f q).0 a) },
    )

    pub next : (d f : ℕ) → IsOneBefore (pair_at pairs d) (pair_at pairs f) ↔ IsNext t pairs d f
    next d f = (
      λ h. to_event (λ x. next_pair x.ticks (pair_at pairs d) ≡ pair_at pairs f) f
          (same_parts (next_pair true (pair_at pairs d)) (pair_at pairs f) h.0 h.1),
      λ h.
          let is = from_event (λ x. next_pair x.ticks (pair_at pairs d) ≡ pair_at pairs f) f h in
          (ap (λ (x : Pair). x.l) is, ap (λ (x : Pair). x.c) is),
    )

    previous_next : (d f : ℕ) → IsPreviousOneBefore s pairs d f ↔ IsPreviousNext t pairs d f
    previous_next d f = (
      λ h. record { previous = to_events (λ x. IsPrevious x d f) h.previous; next = (next d f).0 h.one_before },
      λ h. record { previous = from_events (λ x. IsPrevious x d f) h.previous; one_before = (next d f).1 h.next },
    )

    forcing : (d f : ℕ) → IsForcing s pairs d f ↔ IsClockForcing t pairs d f
    forcing d f = (
      λ h. record {
        off_floor = λ floor.
            let none : (clock_event_at t f).floor.c ≡ 0 = to_event (λ x. x.floor.c ≡ 0) f refl in
            let c : (pair_at pairs f).c ≡ (clock_event_at t f).floor.c = ap (λ (x : Pair). x.c) floor in
            let high : 0 < (pair_at pairs f).c = h.above_zero in
            omega arith;
        above_zero = λ ticks. h.above_zero;
        event = elim h.event [
          | inl found ↦ inl ((previous_next d f).0 found)
          | inr send ↦ inr (λ m found. send.0 m ((previous_next m f).1 found), to_events (λ x. IsSendOf x d f) send.1)
        ];
      },
      λ h. record {
        above_zero = h.above_zero (to_event (λ x. IsTrue x.ticks) f refl);
        event = elim h.event [
          | inl found ↦ inl ((previous_next d f).1 found)
          | inr send ↦ inr (λ m found. send.0 m ((previous_next m f).0 found), from_events (λ x. IsSendOf x d f) send.1)
        ];
      },
    )

    forces_clock : (e : ℕ) (rest : List ℕ) (f : ℕ) → ForcesAlong s pairs e rest f → ClockForcesAlong t pairs e rest f
    forces_clock e [] f h = h
    forces_clock e (m ∷ rest) f h = ((forcing e m).0 h.0, forces_clock m rest f h.1)

    clock_forces : (e : ℕ) (rest : List ℕ) (f : ℕ) → ClockForcesAlong t pairs e rest f → ForcesAlong s pairs e rest f
    clock_forces e [] f h = h
    clock_forces e (m ∷ rest) f h = ((forcing e m).1 h.0, clock_forces m rest f h.1)

  pub ticks_count : (rest : List ℕ) → ticks_among t rest ≡ length rest
  ticks_count [] = refl
  ticks_count (m ∷ rest) =
      let more = ticks_among_more t m rest in
      let one : cond {A = ℕ} (clock_event_at t m).ticks 1 0 ≡ 1 = to_event (λ x. cond {A = ℕ} x.ticks 1 0 ≡ 1) m refl in
      omega (arith, more, one, ticks_count rest)

  module _ (pairs : List Pair) where
    raised_over_is : (p : Pair) (o : Option ℕ) → raised_over pairs p o ≡ greater_next true pairs p o
    raised_over_is p None = refl
    raised_over_is p (Some d) = raised_is_greater p (pair_at pairs d)

    pub least_above_is_feasible : (f : ℕ) → least_above s pairs f ≡ least_feasible_at t pairs f
    least_above_is_feasible f =
        to_events (λ y. least_above s pairs f ≡ (
        let x = clock_event_at t f in
        greater_next x.ticks pairs (greater_next x.ticks pairs x.floor (previous_of y f)) (send_of y f)))
        (to_event (λ x. least_above s pairs f ≡ greater_next x.ticks pairs (greater_next x.ticks pairs x.floor (previous_of s f)) (send_of s f)) f
        (raised_over_is (least_at_node s pairs f) (send_of s f)
        ∙ ap (λ (p : Pair). greater_next true pairs p (send_of s f))
        (raised_over_is (record { l = (skeleton_at s f).reading; c = 0 }) (previous_of s f))))

  first_pairs : (n : ℕ) → first_least_feasible t n ≡ first_least_pairs s n
  first_pairs zero = refl
  first_pairs (suc n) =
      ap (λ (before : List Pair). before ++ least_feasible_at t before n ∷ []) (first_pairs n)
      ∙ ap (λ (p : Pair). first_least_pairs s n ++ p ∷ []) (sym (least_above_is_feasible (first_least_pairs s n) n))

pub ticking_feasible_at_is_allowed_at : TickingFeasibleAtIsAllowedAt
ticking_feasible_at_is_allowed_at s pairs f p = feasible_at s pairs f p

pub ticking_feasible_is_allowed : TickingFeasibleIsAllowed
ticking_feasible_is_allowed s pairs = feasible s pairs

pub ticking_least_at_is_least_above : TickingLeastAtIsLeastAbove
ticking_least_at_is_least_above s pairs f p = least_at s pairs f p

pub ticking_least_is_least : TickingLeastIsLeast
ticking_least_is_least s pairs = (
  λ h. record {
    feasible = (feasible s pairs).0 h.allowed;
    least = λ others a e exists. h.least others ((feasible s others).1 a) e (omega (arith, size s));
  },
  λ h. record {
    allowed = (feasible s pairs).1 h.feasible;
    least = λ others a e exists. h.least others ((feasible s others).0 a) e (omega (arith, size s));
  },
)

pub ticking_forcing_is_forcing : TickingForcingIsForcing
ticking_forcing_is_forcing s pairs d f = forcing s pairs d f

pub ticking_chain_of_is_chain_of : TickingChainOfIsChainOf
ticking_chain_of_is_chain_of s pairs f [] = (λ h. h, λ h. h)
ticking_chain_of_is_chain_of s pairs f (e ∷ rest) = (
  λ h. record {
    exists = omega (arith, h.exists, size s);
    origin = λ d k. h.origin d ((forcing s pairs d e).1 k);
    forces = forces_clock s pairs e rest f h.forces;
  },
  λ h. record {
    exists = omega (arith, h.exists, size s);
    origin = λ d k. h.origin d ((forcing s pairs d e).0 k);
    forces = clock_forces s pairs e rest f h.forces;
  },
)

pub ticking_chain_is_chain : TickingChainIsChain
ticking_chain_is_chain s p f [] = (λ h. h, λ h. h)
ticking_chain_is_chain s p f (e ∷ rest) =
    let none : (clock_event_at (ticking s) e).floor.c ≡ 0 = to_event s (λ x. x.floor.c ≡ 0) e refl in (
      λ h. record {
        exists = omega (arith, h.exists, size s);
        floor = to_event s (λ x. x.floor.l ≡ p.l) e h.reads;
        counts = omega (arith, none, ticks_count s rest, h.counts);
        linked = to_events s (λ x. LeadsTo x e rest f) h.linked;
      },
      λ h. record {
        exists = omega (arith, h.exists, size s);
        reads = from_event s (λ x. x.floor.l ≡ p.l) e h.floor;
        counts = omega (arith, none, ticks_count s rest, h.counts);
        linked = from_events s (λ x. LeadsTo x e rest f) h.linked;
      },
    )

pub ticking_pairs_are_least_pairs : TickingPairsAreLeastPairs
unfolding least_feasible least_pairs
ticking_pairs_are_least_pairs s = ap (λ (n : ℕ). first_least_feasible (ticking s) n) (size s) ∙ first_pairs s (length s)
