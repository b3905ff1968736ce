use Rattle.std.proofs.Common.{◌≡◌, ◌∙◌, ◌+◌, ◌^◌, ◌<◌, ◌≤◌, ◌-◌, ℕ, List, ap, arith, length, refl, sym, Option, Some, None}
use Rattle.std.specs.Prelude.{IfSome}
use Rattle.hlc_stamp.specs.declared.id.EventId.{EventId}
use Rattle.hlc_stamp.specs.Order.{Pair}
use Rattle.hlc_stamp.specs.declared.limits.TheConstants.{MAX_CAPACITY}
use Rattle.hlc_causality.specs.declared.event_rule.TheConstants.{MAX_FLOOR_C}
use Rattle.hlc_causality.specs.Assignment.{pair_at}
use Rattle.hlc_causality.specs.Causality.{Skeleton, SkeletonEvent}
use Rattle.hlc_causality.specs.LeastFeasible.{greater_next}
use Rattle.hlc_causality.specs.Neighbours.{NamesLast, place_of}
use Rattle.hlc_causality.proofs.Neighbours.{is_some_place}
use Rattle.hlc_execution.specs.Execution.{IsSource}
use Rattle.hlc_causes.proofs.NextEvents.{counter_is_small, least_raised}
use Rattle.hlc_causes.proofs.pushing.next_stamp.Goals as goal

send_exists : (s : Skeleton) (send : Option EventId) → IfSome (place_of send) (IsSource s) → IfSome send (λ d. d.0 < length s)
send_exists s None source = tt
send_exists s (Some d) source = source.0

-- after each of some events one stamp more finds its c
has_room : (s : Skeleton) (pairs : List Pair) → ((f : ℕ) → f < length s → (pair_at pairs f).c ≤ MAX_FLOOR_C + f) → length s < MAX_CAPACITY
    → (d : EventId) → d.0 < length s → (pair_at pairs d.0).c < 2 ^ 32 - 1
has_room s pairs small few d exists = omega (arith, small d.0 exists, few, exists)

last_exists : (s : Skeleton) (node : ℕ) (last : Option EventId) → NamesLast s node last → (d : EventId) → last ≡ Some d → d.0 < length s
last_exists s node None names d is = absurd cc
last_exists s node (Some l) names d is = let same : l.0 ≡ d.0 = cc in omega (arith, same, names.exists)

pub raised-after_last-requires-clause-room : goal.raised-after_last-requires-clause-room
raised-after_last-requires-clause-room c = λ d is.
    let rules = c.args.execution.now.rules in
    let s = c.args.execution.now.events in
    let pairs = c.args.execution.now.stamps in
    has_room s pairs (counter_is_small rules s pairs c.requires.least c.next_rule-rule.ensures.small) c.requires.few d
    (last_exists s c.args.node.0 c.last_at.result c.last_at.ensures d is)

pub raised-requires-clause-room : goal.raised-requires-clause-room
raised-requires-clause-room c = λ d is.
    let rules = c.args.execution.now.rules in
    let s = c.args.execution.now.events in
    let pairs = c.args.execution.now.stamps in
    has_room s pairs (counter_is_small rules s pairs c.requires.least c.next_rule-rule.ensures.small) c.requires.few d
    (rw is at (send_exists s c.args.send c.requires.follows.send))

pub returns : goal.returns
returns c =
    let s = c.args.execution.now.events in
    let pairs = c.args.execution.now.stamps in
    let x : SkeletonEvent = record { node = c.args.node.0; reading = c.args.reading; send = place_of c.args.send } in
    let rule = c.next_rule-rule in
    let is_receive = is_some_place c.args.send ∙ sym c.is_some.ensures in
    least_raised c.args.execution.now.rules s x c.args.execution.now.stamps rule.result.floor c.raised.result rule.result.ticks c.last_at.result c.args.send
    (rule.ensures.floor x is_receive refl) (rule.ensures.ticks x is_receive refl) c.last_at.ensures refl (send_exists s c.args.send c.requires.follows.send)
    (c.raised.ensures ∙ ap (λ (p : Pair). greater_next rule.result.ticks pairs p (place_of c.args.send)) c.raised-after_last.ensures)
