use Rattle.std.proofs.Common.{◌≡◌, List, length, ap, subst, ◌∙◌}
use Rattle.hlc_stamp.specs.Order.{Pair}
use Rattle.hlc_causality.specs.ClockEvents.{ClockEvents}
use Rattle.hlc_causality.specs.Neighbours.{place_of}
use Rattle.hlc_causes.specs.Swapped.{keeps_after}
use Rattle.hlc_execution.specs.Execution.{clock_of}
use Rattle.hlc_ordered_log.specs.InOrder.{seen_of}
use Rattle.hlc_ordered_log.proofs.EventsInOrder.{has_claims, has_clocks, has_event, length-seen_of}
use Rattle.hlc_ordered_log.proofs.ordered_log.OrderedLog.keeps_after.Goals as goal

pub keeps_after-requires-clause-exists : goal.keeps_after-requires-clause-exists
keeps_after-requires-clause-exists c = has_event _ _ _ _ c.self.invariant _ c.self.view_is c.args.position.0 c.requires.exists

pub keeps_after-requires-clause-previous : goal.keeps_after-requires-clause-previous
keeps_after-requires-clause-previous c =
    λ d is. has_event _ _ _ _ c.self.invariant _ c.self.view_is d.0 (c.requires.previous d is)

pub keeps_after-requires-clause-one_each : goal.keeps_after-requires-clause-one_each
keeps_after-requires-clause-one_each c =
    ap (λ (pairs : List Pair). length pairs) c.seen.ensures ∙ length-seen_of c.args.self.now c.args.position.0 ∙ has_claims _ _ _ _ c.self.invariant _ c.self.view_is

pub returns : goal.returns
returns c =
    let k = c.args.position.0 in
    let previous = place_of c.args.previous in
    let seen = seen_of c.args.self.now k in
    subst (λ (t : ClockEvents). c.keeps_after.result ≡ keeps_after t seen c.args.full k previous) (has_clocks _ _ _ _ c.self.invariant _ c.self.view_is)
    (subst (λ (pairs : List Pair). c.keeps_after.result ≡ keeps_after (clock_of c.self.inside.execution) pairs c.args.full k previous) c.seen.ensures
    c.keeps_after.ensures)
