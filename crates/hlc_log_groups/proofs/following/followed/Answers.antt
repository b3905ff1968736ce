use Rattle.std.proofs.Common.{◌≡◌, ◌∙◌, List, Option, Some, None, length, arith, ap, refl}
use Rattle.std.specs.Prelude.{IfSome}
use Rattle.hlc_stamp.specs.declared.id.EventId.{EventId}
use Rattle.hlc_stamp.specs.Order.{Pair}
use Rattle.hlc_causality.specs.Causality.{Skeleton}
use Rattle.hlc_causality.specs.ClockEvents.{ClockEvents, clock_event_at, clock_skeleton}
use Rattle.hlc_ordered_log.specs.InOrder.{clocks_of}
use Rattle.hlc_ordered_log.proofs.EventsInOrder.{length-claimed_of, length-seen_of, length-skeleton_of}
use Rattle.hlc_log_groups.specs.Followed.{greater_of, unless_below}
use Rattle.hlc_log_groups.proofs.following.followed.Goals as goal

pub greater_of-greater-requires-clause-first : goal.greater_of-greater-requires-clause-first
greater_of-greater-requires-clause-first c x is =
    let log = c.args.log.now in
    let seen = ap (λ (pairs : List Pair). length pairs) c.seen-seen.ensures in
    omega (
      arith,
      seen,
      length-seen_of log c.args.position.0,
      length-claimed_of log,
      length-skeleton_of log c.requires.ordered,
      c.previous.ensures.exists x is,
    )

pub greater_of-greater-requires-clause-second : goal.greater_of-greater-requires-clause-second
greater_of-greater-requires-clause-second c x is =
    let log = c.args.log.now in
    let seen = ap (λ (pairs : List Pair). length pairs) c.seen-seen.ensures in
    omega (
      arith,
      seen,
      length-seen_of log c.args.position.0,
      length-claimed_of log,
      length-skeleton_of log c.requires.ordered,
      c.send.ensures.exists x is,
    )

pub rule-requires : goal.rule-requires
rule-requires c =
    let same = ap (λ (s : Skeleton). length s) c.execution.ensures.events in
    omega (arith, same, length-skeleton_of c.args.log.now c.requires.ordered, c.requires.exists)

pub returns-clause-value : goal.returns-clause-value
returns-clause-value c =
    let log = c.args.log.now in
    let k = c.args.position.0 in
    let t = clocks_of log in
    let s = clock_skeleton t in
    let floor : c.rule.result.floor ≡ (clock_event_at t k).floor =
    c.rule.ensures.floor ∙ ap (λ (t : ClockEvents). (clock_event_at t k).floor) c.execution.ensures.clocks in
    c.unless_below.ensures.value
    ∙ ap (unless_below c.seen-seen.result c.rule.result.floor) c.greater_of-greater.ensures.value
    ∙ (λ i. unless_below (c.seen-seen.ensures i) (floor i)
    (greater_of (c.seen-seen.ensures i) (c.previous.ensures.value i) (c.send.ensures.value i)))

named : {P : EventId → Type 0} (o : Option EventId) → ((d : EventId) → o ≡ Some d → P d) → IfSome o P
named None each = tt
named (Some d) each = each d refl

pub returns-clause-event : goal.returns-clause-event
returns-clause-event c =
    let log = c.args.log.now in
    let seen = ap (λ (pairs : List Pair). length pairs) c.seen-seen.ensures in
    named c.unless_below.result (λ d is.
    omega (
      arith,
      seen,
      length-seen_of log c.args.position.0,
      length-claimed_of log,
      length-skeleton_of log c.requires.ordered,
      c.unless_below.ensures.exists d is,
    ))
