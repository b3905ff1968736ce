use Rattle.std.proofs.Common.{◌∙◌, ◌<◌, ℕ, List, None, Some, ap, arith, length, sym}
use Rattle.hlc_stamp.specs.Order.{Pair}
use Rattle.hlc_causality.specs.Assignment.{pair_at}
use Rattle.hlc_causality.specs.Causality.{Skeleton}
use Rattle.hlc_causality.specs.ClockEvents.{ClockEvents, clock_event_at}
use Rattle.hlc_log.specs.OrderSkeleton.{index_in}
use Rattle.hlc_ordered_log.proofs.EventsInOrder.{length-claimed_of, length-seen_of, length-skeleton_of}
use Rattle.hlc_log_groups.specs.ComparedStamps.{seen_or_floor}
use Rattle.hlc_log_groups.proofs.compared_stamps.seen_stamp.Goals as goal

pub stamp-requires : goal.stamp-requires
stamp-requires c =
    let log = c.args.log.now in
    let seen = ap (λ (pairs : List Pair). length pairs) c.seen.ensures in
    let exists : c.in-Some.event.0 < length log.events = rw c.in-Some.is at c.requires.exist.1 in
    omega (
      arith,
      seen,
      length-seen_of log c.position-position.result.0,
      length-claimed_of log,
      length-skeleton_of log c.requires.ordered,
      exists,
    )

pub rule-requires : goal.rule-requires
rule-requires c =
    let same = ap (λ (s : Skeleton). length s) c.execution.ensures.events in
    omega (arith, same, length-skeleton_of c.args.log.now c.requires.ordered, c.position-position.ensures.exists)

pub returns-in-Some : goal.returns-in-Some
returns-in-Some c =
    let log = c.args.log.now in
    let e = c.args.place.event.0 in
    let here = c.position-position.ensures.index in
    c.stamp.ensures ∙ (λ i. pair_at (c.seen.ensures i) c.in-Some.event.0)
    ∙ ap (λ (k : ℕ). seen_or_floor log k (Some c.in-Some.event)) here ∙ ap (seen_or_floor log (index_in log.order e)) (sym c.in-Some.is)

pub returns-in-None : goal.returns-in-None
returns-in-None c =
    let log = c.args.log.now in
    let e = c.args.place.event.0 in
    let here = c.position-position.ensures.index in
    c.rule.ensures.floor ∙ ap (λ (t : ClockEvents). (clock_event_at t c.position-position.result.0).floor) c.execution.ensures.clocks
    ∙ ap (λ (k : ℕ). seen_or_floor log k None) here ∙ ap (seen_or_floor log (index_in log.order e)) (sym c.in-None.is)
