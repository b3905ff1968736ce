use Rattle.std.proofs.Common.{◌∙◌, ap, arith, length}
use Rattle.hlc_causality.specs.Causality.{Skeleton}
use Rattle.hlc_causality.specs.ClockEvents.{ClockEvents}
use Rattle.hlc_ordered_log.proofs.EventsInOrder.{length-clocks_of, length-skeleton_of}
use Rattle.hlc_log_audit.proofs.DriftEvents.{furthest_exists, no_drift, origin_renamed, some_drift}
use Rattle.hlc_log_audit.proofs.drift.drift_from.Goals as goal

pub returns-in_err-event-clause-drift : goal.returns-in_err-event-clause-drift
returns-in_err-event-clause-drift c =
    c.from_residual.ensures
    ∙ no_drift c.args.log.now c.requires.ordered c.args.node.0 c.args.furthest c.requires.furthest c.in_err-event.was

pub origin-origin-requires : goal.origin-origin-requires
origin-origin-requires c =
    let log = c.args.log.now in
    let size = length-skeleton_of log c.requires.ordered in
    let same = ap (λ (s : Skeleton). length s) c.execution.ensures.events in
    let exists = furthest_exists log c.requires.ordered c.args.node.0 c.args.furthest c.requires.furthest c.in_ok-event.field-0 c.in_ok-event.was in
    omega arith

pub returns-clause-drift : goal.returns-clause-drift
returns-clause-drift c =
    let log = c.args.log.now in
    let lent = c.execution.ensures in
    let origin = c.origin-origin.result in
    let event = c.in_ok-event.field-0.event.0 in
    some_drift log c.requires.ordered c.args.node.0 c.args.furthest c.requires.furthest c.in_ok-event.field-0 c.in_ok-event.was origin
    (origin_renamed log _ _ event origin.0 lent.clocks lent.stamps c.origin-origin.ensures.origin)

pub returns-clause-event : goal.returns-clause-event
returns-clause-event c =
    furthest_exists c.args.log.now c.requires.ordered c.args.node.0 c.args.furthest c.requires.furthest c.in_ok-event.field-0 c.in_ok-event.was

pub returns-clause-origin : goal.returns-clause-origin
returns-clause-origin c =
    let log = c.args.log.now in
    let size = length-skeleton_of log c.requires.ordered in
    let same = ap (λ (t : ClockEvents). length t) c.execution.ensures.clocks in
    let exists = c.origin-origin.ensures.origin.1.exists in
    omega (arith, size, length-clocks_of log)
