-- The forcing event of an event, and origins.
use Rattle.std.proofs.Common.{◌≡◌, ℕ, ◌+◌, ◌<◌, inl, inr, List, arith}
use Rattle.hlc_stamp.specs.Order.{Pair}
use Rattle.hlc_causality.specs.Assignment.{pair_at}
use Rattle.hlc_causality.specs.Causality.{IsDirectPredecessor, IsSendOf, Skeleton}
use Rattle.hlc_causality.specs.Chain.{IsForcing, IsOrigin, IsPreviousOneBefore, NoPreviousOneBefore}
use Rattle.hlc_causality.specs.ClockEvents.{ticking}
use Rattle.hlc_causality.specs.Laws.{ForcingEventIsDirect, ForcingEventIsOneBefore, ForcingEventIsUnique}
use Rattle.hlc_causality.proofs.ClockForcing.{clock_forcing_is_direct, clock_forcing_is_next, clock_forcing_is_unique}
use Rattle.hlc_causality.proofs.Predecessors.{direct_earlier}
use Rattle.hlc_causality.proofs.Ticking.{from_events, next, ticking_forcing_is_forcing, ticking_least_is_least}

pub previous_forces : (s : Skeleton) (pairs : List Pair) (d f : ℕ) → IsPreviousOneBefore s pairs d f → IsForcing s pairs d f
previous_forces s pairs d f found =
    let next : (pair_at pairs d).c + 1 ≡ (pair_at pairs f).c = found.one_before.1 in
    record { above_zero = omega arith; event = inl found }

pub send_forces :
    (s : Skeleton) (pairs : List Pair) (d f : ℕ) → 0 < (pair_at pairs f).c
    → NoPreviousOneBefore s pairs f → IsSendOf s d f → IsForcing s pairs d f
send_forces s pairs d f above none send = record { above_zero = above; event = inr (none, send) }

pub zero_is_origin : (s : Skeleton) (pairs : List Pair) (f : ℕ) → (pair_at pairs f).c ≡ 0 → IsOrigin s pairs f
zero_is_origin s pairs f zero d h = let above : 0 < (pair_at pairs f).c = h.above_zero in omega arith

pub unsent_is_origin : (s : Skeleton) (pairs : List Pair) (f : ℕ)
    → NoPreviousOneBefore s pairs f → ((d : ℕ) → ¬ IsSendOf s d f) → IsOrigin s pairs f
unsent_is_origin s pairs f none unsent d h = elim h.event [ inl found ↦ none d found | inr else ↦ unsent d else.1 ]

pub forcing_event_is_unique : ForcingEventIsUnique
forcing_event_is_unique s pairs d e f a b =
    clock_forcing_is_unique (ticking s) pairs d e f
    ((ticking_forcing_is_forcing s pairs d f).0 a) ((ticking_forcing_is_forcing s pairs e f).0 b)

pub forcing_event_is_direct : ForcingEventIsDirect
forcing_event_is_direct s pairs d f h =
    from_events s (λ x. IsDirectPredecessor x d f)
    (clock_forcing_is_direct (ticking s) pairs d f ((ticking_forcing_is_forcing s pairs d f).0 h))

pub forcing_event_is_earlier : (s : Skeleton) (pairs : List Pair) (d f : ℕ) → IsForcing s pairs d f → d < f
forcing_event_is_earlier s pairs d f h = direct_earlier s d f (forcing_event_is_direct s pairs d f h)

pub forcing_event_is_one_before : ForcingEventIsOneBefore
forcing_event_is_one_before s pairs d f least h =
    (next s pairs d f).1 (clock_forcing_is_next (ticking s) pairs d f
    ((ticking_least_is_least s pairs).0 least) ((ticking_forcing_is_forcing s pairs d f).0 h))
