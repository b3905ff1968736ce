-- The forcing event of an event by floors and ticks, and origins.
use Rattle.std.proofs.Common.{◌≡◌, ◌≢◌, ℕ, ◌+◌, ◌<◌, ◌⊎◌, inl, inr, Bool, true, false, List, length, arith, refl, subst, sym, ap, ◌∙◌}
use Rattle.std.specs.Prelude.{IsTrue}
use Rattle.std.proofs.lemmas.Bool.{cases_eq}
use Rattle.hlc_stamp.specs.Order.{Pair}
use Rattle.hlc_causality.specs.Assignment.{pair_at}
use Rattle.hlc_causality.specs.Causality.{IsDirectPredecessor, IsSendOf}
use Rattle.hlc_causality.specs.ClockChain.{IsClockForcing, IsClockOrigin, IsNext, IsPreviousNext, NoPreviousNext}
use Rattle.hlc_causality.specs.ClockEvents.{ClockEvents, clock_event_at, clock_skeleton}
use Rattle.hlc_causality.specs.Feasible.{IsLeastFeasibleAt}
use Rattle.hlc_causality.specs.FloorLaws.{ClockForcingIsDirect, ClockForcingIsNext, ClockForcingIsUnique}
use Rattle.hlc_causality.specs.LeastFeasible.{next_pair}
use Rattle.hlc_causality.proofs.ClockEvents.{clock_event_exists, skeleton_size}
use Rattle.hlc_causality.proofs.Feasible.{least_feasible_source}
use Rattle.hlc_causality.proofs.LeastFeasible.{each_from_least_feasible}
use Rattle.hlc_causality.proofs.Pairs.{same_pair_or_not}
use Rattle.hlc_causality.proofs.Predecessors.{direct_earlier, previous_is_unique, previous_or_first, send_is_unique, send_or_none}

-- an event at which something can force: its pair isn't its floor nor, if it ticks, its c 0
record IsRaisedAt (t : ClockEvents) (pairs : List Pair) (f : ℕ) : Type 0 where
  off_floor : pair_at pairs f ≢ (clock_event_at t f).floor
  above_zero : IsTrue (clock_event_at t f).ticks → 0 < (pair_at pairs f).c

raised_or_origin : (t : ClockEvents) (pairs : List Pair) (f : ℕ) → IsRaisedAt t pairs f ⊎ IsClockOrigin t pairs f
raised_or_origin t pairs f =
    elim (same_pair_or_not (pair_at pairs f) (clock_event_at t f).floor) [
      | inl same ↦ inr (λ d h. h.off_floor same)
      | inr off ↦ zero_or_not (clock_event_at t f).ticks refl off
    ]
  where
    zero_or_not : (ticks : Bool) → (clock_event_at t f).ticks ≡ ticks → pair_at pairs f ≢ (clock_event_at t f).floor
        → IsRaisedAt t pairs f ⊎ IsClockOrigin t pairs f
    zero_or_not false is off = inl (record { off_floor = off; above_zero = λ b. let no : false ≡ true = sym is ∙ b in absurd cc })
    zero_or_not true is off = elim (cases_eq (pair_at pairs f).c 0) [
      | inr ne ↦ inl (record { off_floor = off; above_zero = λ b. omega arith })
      | inl none ↦ inr (λ d h. let above : 0 < (pair_at pairs f).c = h.above_zero is in omega arith)
    ]

previous_next_or_none : (t : ClockEvents) (pairs : List Pair) (f : ℕ) → f < length t
    → ((d : ℕ) × IsPreviousNext t pairs d f) ⊎ NoPreviousNext t pairs f
previous_next_or_none t pairs f exists =
    elim (previous_or_first (clock_skeleton t) f (omega (arith, skeleton_size t))) [
      | inr first ↦ inr (λ m h. first m h.previous.at_node)
      | inl found ↦
          let d = found.0 in
          elim (same_pair_or_not (next_pair (clock_event_at t f).ticks (pair_at pairs d)) (pair_at pairs f)) [
            | inl next ↦ inl (d, record { previous = found.1; next = next })
            | inr not ↦ inr (λ m h.
                let same : m ≡ d = previous_is_unique (clock_skeleton t) m d f h.previous found.1 in
                not (subst (λ x. IsNext t pairs x f) same h.next))
          ]
    ]

-- an event has a forcing event, or is an origin
pub clock_forcing_or_origin : (t : ClockEvents) (pairs : List Pair) (f : ℕ)
    → f < length t → ((d : ℕ) × IsClockForcing t pairs d f) ⊎ IsClockOrigin t pairs f
clock_forcing_or_origin t pairs f exists =
    elim (raised_or_origin t pairs f) [
      | inr origin ↦ inr origin
      | inl up ↦
          elim (previous_next_or_none t pairs f exists) [
            | inl found ↦ inl (found.0, record { off_floor = up.off_floor; above_zero = up.above_zero; event = inl found.1 })
            | inr none ↦
                elim (send_or_none (clock_skeleton t) f (omega (arith, skeleton_size t))) [
                  | inl send ↦ inl (send.0, record { off_floor = up.off_floor; above_zero = up.above_zero; event = inr (none, send.1) })
                  | inr unsent ↦ inr (λ d h. elim h.event [ inl found ↦ none d found | inr else ↦ unsent d else.1 ])
                ]
          ]
    ]

pub clock_forcing_is_unique : ClockForcingIsUnique
clock_forcing_is_unique t pairs d e f a b =
    elim a.event [
      | inl found ↦
          elim b.event [
            | inl other ↦ previous_is_unique (clock_skeleton t) d e f found.previous other.previous
            | inr other ↦ absurd (other.0 d found)
          ]
      | inr send ↦
          elim b.event [
            | inl other ↦ absurd (send.0 e other)
            | inr other ↦ send_is_unique (clock_skeleton t) d e f send.1 other.1
          ]
    ]

pub clock_forcing_is_direct : ClockForcingIsDirect
clock_forcing_is_direct t pairs d f h = elim h.event [ inl found ↦ inl found.previous | inr send ↦ inr send.1 ]

pub clock_forcing_is_earlier : (t : ClockEvents) (pairs : List Pair) (d f : ℕ) → IsClockForcing t pairs d f → d < f
clock_forcing_is_earlier t pairs d f h = direct_earlier (clock_skeleton t) d f (clock_forcing_is_direct t pairs d f h)

-- if the pair of f isn't next to that of the previous event, only the send can be a direct predecessor to whose pair it is
sent_next :
    (t : ClockEvents) (pairs : List Pair) (d e f : ℕ) → NoPreviousNext t pairs f → IsSendOf (clock_skeleton t) d f →
    IsDirectPredecessor (clock_skeleton t) e f → IsNext t pairs e f → IsNext t pairs d f
sent_next t pairs d e f none send (inl previous) next = absurd (none e (record { previous = previous; next = next }))
sent_next t pairs d e f none send (inr other) next =
    subst (λ x. IsNext t pairs x f) (send_is_unique (clock_skeleton t) e d f other send) next

-- with a least pair it is next to that of the forcing event
least_clock_forcing_is_next :
    (t : ClockEvents) (pairs : List Pair) (d f : ℕ) → IsLeastFeasibleAt t pairs f (pair_at pairs f) → IsClockForcing t pairs d f →
    IsNext t pairs d f
least_clock_forcing_is_next t pairs d f least h =
    elim h.event [
      | inl found ↦ found.next
      | inr send ↦
          let exists = clock_event_exists t d f (inr send.1) in
          elim (least_feasible_source t pairs f (pair_at pairs f) exists least) [
            | inl own ↦ absurd (h.off_floor own)
            | inr from ↦ sent_next t pairs d from.0 f send.0 send.1 from.1 from.2
          ]
    ]

pub clock_forcing_is_next : ClockForcingIsNext
clock_forcing_is_next t pairs d f least h =
    let exists = clock_event_exists t d f (clock_forcing_is_direct t pairs d f h) in
    least_clock_forcing_is_next t pairs d f (each_from_least_feasible t pairs least f exists) h

-- a pair next to another has c above 0 if its event ticks
next_above_zero : (ticks : Bool) (p q : Pair) → next_pair ticks p ≡ q → IsTrue ticks → 0 < q.c
next_above_zero true p q next b = let c : p.c + 1 ≡ q.c = ap (λ (x : Pair). x.c) next in omega arith
next_above_zero false p q next b = let no : false ≡ true = b in absurd cc

-- a pair that is off its floor, and next to that of a direct predecessor, has a forcing event
forced_if_next :
    (t : ClockEvents) (pairs : List Pair) (d f : ℕ) → pair_at pairs f ≢ (clock_event_at t f).floor →
    IsDirectPredecessor (clock_skeleton t) d f → IsNext t pairs d f → IsClockOrigin t pairs f → ⊥
forced_if_next t pairs d f off (inl previous) next origin =
    origin d (record {
      off_floor = off;
      above_zero = next_above_zero (clock_event_at t f).ticks (pair_at pairs d) (pair_at pairs f) next;
      event = inl (record { previous = previous; next = next });
    })
forced_if_next t pairs d f off (inr send) next origin =
    let above = next_above_zero (clock_event_at t f).ticks (pair_at pairs d) (pair_at pairs f) next in
    origin d (record {
      off_floor = off;
      above_zero = above;
      event = inr (λ m found. origin m (record { off_floor = off; above_zero = above; event = inl found }), send);
    })

-- with a least pair an origin has its floor
pub origin_has_its_floor :
    (t : ClockEvents) (pairs : List Pair) (f : ℕ)
    → f < length t → IsLeastFeasibleAt t pairs f (pair_at pairs f) → IsClockOrigin t pairs f →
    pair_at pairs f ≡ (clock_event_at t f).floor
origin_has_its_floor t pairs f exists least origin =
    elim (same_pair_or_not (pair_at pairs f) (clock_event_at t f).floor) [
      | inl same ↦ same
      | inr off ↦
          elim (least_feasible_source t pairs f (pair_at pairs f) exists least) [
            | inl own ↦ own
            | inr from ↦ absurd (forced_if_next t pairs from.0 f off from.1 from.2 origin)
          ]
    ]
