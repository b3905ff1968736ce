use Rattle.std.proofs.Common.{List, length, ap, subst, sym, ◌∙◌}
use Rattle.hlc_stamp.specs.Order.{Pair}
use Rattle.hlc_execution.specs.Execution.{clock_of}
use Rattle.hlc_causality.specs.ClockEvents.{ClockEvents}
use Rattle.hlc_causes.specs.Causes.{NamesCauses}
use Rattle.hlc_ordered_log.specs.InOrder.{seen_of}
use Rattle.hlc_ordered_log.proofs.EventsInOrder.{has_claims, has_clocks, has_event, length-seen_of}
use Rattle.hlc_ordered_log.proofs.Found.{told_has_all, untold_has_none}
use Rattle.hlc_ordered_log.proofs.ordered_log.OrderedLog.causes.Goals as goal

pub causes_at-requires-clause-exists : goal.causes_at-requires-clause-exists
causes_at-requires-clause-exists c = has_event _ _ _ _ c.self.invariant _ c.self.view_is c.args.position.0 c.requires

pub causes_at-requires-clause-one_each : goal.causes_at-requires-clause-one_each
causes_at-requires-clause-one_each c =
    ap (λ (pairs : List Pair). length pairs) c.seen.ensures ∙ length-seen_of c.args.self.now c.args.position.0 ∙ has_claims _ _ _ _ c.self.invariant _ c.self.view_is

pub returns-else-has_stamp : goal.returns-else-has_stamp
returns-else-has_stamp c =
    untold_has_none c.args.self.now c.args.full c.args.position.0 c.none.result c.none.ensures (sym c.has_stamp.ensures ∙ c.if-has_stamp.false)

pub returns-then-has_stamp : goal.returns-then-has_stamp
returns-then-has_stamp c =
    let log = c.args.self.now in
    let clocks = has_clocks _ _ _ _ c.self.invariant _ c.self.view_is in
    let seen = seen_of log c.args.position.0 in
    told_has_all log c.args.full c.args.position.0 c.causes_at.result (sym c.has_stamp.ensures ∙ c.if-has_stamp.true)
    (subst (λ (t : ClockEvents). NamesCauses t seen c.args.full c.args.position.0 c.causes_at.result) clocks
    (subst (λ (pairs : List Pair). NamesCauses (clock_of c.self.inside.execution) pairs c.args.full c.args.position.0 c.causes_at.result) c.seen.ensures
    c.causes_at.ensures))
