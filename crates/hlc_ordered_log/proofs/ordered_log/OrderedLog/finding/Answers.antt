use Rattle.std.proofs.Common.{List, length, ap, subst, sym, ◌∙◌}
use Rattle.hlc_stamp.specs.Order.{Pair}
use Rattle.hlc_causality.specs.ClockEvents.{ClockEvents}
use Rattle.hlc_causes.specs.Causes.{NamesFinding}
use Rattle.hlc_ordered_log.specs.InOrder.{LogInOrder, clocks_of, seen_of}
use Rattle.hlc_execution.specs.Execution.{clock_of}
use Rattle.hlc_ordered_log.proofs.EventsInOrder.{has_claims, has_clocks, has_event, length-seen_of}
use Rattle.hlc_ordered_log.proofs.ordered_log.OrderedLog.finding.Goals as goal

pub finding-requires-clause-exists : goal.finding-requires-clause-exists
finding-requires-clause-exists c = has_event _ _ _ _ c.self.invariant _ c.self.view_is c.args.position.0 c.requires

pub finding-requires-clause-one_each : goal.finding-requires-clause-one_each
finding-requires-clause-one_each c =
    ap (λ (pairs : List Pair). length pairs) c.seen.ensures ∙ length-seen_of c.args.self.now c.args.position.0 ∙ has_claims _ _ _ _ c.self.invariant _ c.self.view_is

pub returns : goal.returns
returns c =
    let log = c.args.self.now in
    let clocks = has_clocks _ _ _ _ c.self.invariant _ c.self.view_is in
    let seen = seen_of log c.args.position.0 in (
      sym c.has_stamp.ensures ∙ c.if-not-has_stamp.false,
      subst (λ (least : List Pair). NamesFinding (clocks_of log) seen least c.args.full c.args.position.0 c.finding.result)
          (ap (λ (l : LogInOrder). l.least) c.self.view_is)
          (subst (λ (t : ClockEvents). NamesFinding t seen c.self.inside.execution.stamps c.args.full c.args.position.0 c.finding.result) clocks
          (subst (λ (pairs : List Pair). NamesFinding (clock_of c.self.inside.execution) pairs c.self.inside.execution.stamps c.args.full c.args.position.0 c.finding.result)
          c.seen.ensures c.finding.ensures)),
    )
