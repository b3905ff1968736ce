-- No counter of a least stamp wears out.
use Rattle.std.proofs.Common.{◌≡◌, ℕ, ◌+◌, ◌<◌, ◌≤◌, List, length, arith, subst, sym, ap, Option, Some, None, Result, Ok, Err}
use Rattle.std.specs.Prelude.{IfOk}
use Rattle.std.proofs.lemmas.List.{length_push}
use Rattle.hlc_stamp.specs.declared.id.EventId.{EventId}
use Rattle.hlc_stamp.specs.Order.{Pair}
use Rattle.hlc_causality.specs.Assignment.{pair_at}
use Rattle.hlc_arena.specs.History.{StampedEvent, causality_of, stamp_at, stamps_of}
use Rattle.hlc_causality.specs.Neighbours.{NamesLast, NamesLastPair}
use Rattle.hlc_arena.specs.ClockRule.{HasLeastStamps}
use Rattle.hlc_arena.proofs.Histories.{length_skeleton, pair_at_place}
use Rattle.hlc_causality.proofs.LeastPairs.{counter_is_at_most_place}
use Rattle.hlc_arena.proofs.Places.{stamped_at-last}
use Rattle.hlc_core.specs.declared.accepted.Accepted.{Accepted}
use Rattle.hlc_core.specs.declared.refusal.Refusal.{Refusal}
use Rattle.hlc_core.specs.Request.{Request}
use Rattle.hlc_core.specs.Sound.{IsSound}
use Rattle.hlc_core.specs.State.{State}
use Rattle.hlc_core.specs.Step.{IsAnswered, event_for, live_after, refusal_of, state_with}
use Rattle.hlc_core.proofs.Passed.{made_is}

-- c of an event's stamp is at most its place
pub counter_of_event : (events : List StampedEvent) (e : ℕ) → HasLeastStamps events → e < length events → (stamp_at events e).c ≤ e
counter_of_event events e least exists =
    let size = length_skeleton events in
    let counts = counter_is_at_most_place (causality_of events) (stamps_of events) e (omega arith) least in
    subst (λ (p : Pair). p.c ≤ e) (pair_at_place events e) counts

-- and so it is of a node's last stamp
pub counter_of_last : (events : List StampedEvent) (node : ℕ) (link : Option EventId) (old : Pair) → HasLeastStamps events →
    NamesLast (causality_of events) node link → NamesLastPair (stamps_of events) link old → old.c ≤ length events
counter_of_last events node None old least names is = let zero : old.c ≡ 0 = ap (λ (p : Pair). p.c) is in omega arith
counter_of_last events node (Some d) old least names is =
    let size = length_skeleton events in
    let counts = counter_is_at_most_place (causality_of events) (stamps_of events) d.0 names.exists least in
    let same : old.c ≡ (pair_at (stamps_of events) d.0).c = ap (λ (p : Pair). p.c) is in
    omega (arith, names.exists, counts)

-- c of an answer is below the number of events
pub answer_counts : (old : State) (node reading : ℕ) (request : Request) (r : Result Accepted Refusal) (new : State) →
    IsAnswered old node reading request r new → IsSound new → IfOk r (λ a. a.stamp.c < length new.history.events)
answer_counts old node reading request (Err refusal) new answer sound = tt
answer_counts old node reading request (Ok a) new answer sound =
    let x : StampedEvent = record { event = event_for old node reading request; stamp = a.stamp } in
    let made = state_with old x (live_after old node request) in
    let is : new ≡ made = made_is (refusal_of old node reading request) made new answer.step in
    let size : length made.history.events ≡ length old.history.events + 1 = length_push old.history.events x in
    let least : HasLeastStamps made.history.events = subst (λ (s : State). HasLeastStamps s.history.events) is sound.least in
    let place = length old.history.events in
    let counts = counter_of_event made.history.events place least (omega arith) in
    let here : (stamp_at made.history.events place).c ≡ a.stamp.c =
    ap (λ (y : StampedEvent). y.stamp.c) (stamped_at-last old.history.events x) in
    subst (λ (s : State). a.stamp.c < length s.history.events) (sym is) (omega (arith, counts, here, size))
