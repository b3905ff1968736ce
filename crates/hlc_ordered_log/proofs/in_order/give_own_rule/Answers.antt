use Rattle.std.proofs.Common.{◌≡◌, ◌∙◌, length, arith, ap, Ok, Err}
use Rattle.std.specs.Prelude.{OnOk, Result}
use Rattle.hlc_causality.specs.Causality.{Skeleton}
use Rattle.hlc_causality.specs.ReceiveEvents.{ClockRules, clock_events}
use Rattle.hlc_execution.specs.Execution.{clock_of}
use Rattle.hlc_execution.specs.Rules.{with_rule}
use Rattle.hlc_execution.proofs.OwnRules.{clock_events_before}
use Rattle.hlc_ordered_log.proofs.in_order.give_own_rule.Goals as goal

pub returns-in-Some-clause-clocks : goal.returns-in-Some-clause-clocks
returns-in-Some-clause-clocks c = by_result c.give_rule.result c.give_rule.ensures.rules
  where
    by_result : {E : Type 0} (result : Result (Unit {0}) E)
        → OnOk result (c.give_rule.new.self.rules ≡ with_rule c.args.execution.now.rules (length c.args.execution.now.events) c.in-Some.rule)
        → OnOk result (clock_of c.give_rule.new.self ≡ clock_of c.args.execution.now)
    by_result (Ok done) given =
        let s = c.args.execution.now.events in
        ap (λ (rules : ClockRules). clock_events rules c.give_rule.new.self.events) given
        ∙ ap (λ (events : Skeleton). clock_events (with_rule c.args.execution.now.rules (length s) c.in-Some.rule) events) c.give_rule.ensures.events
        ∙ clock_events_before c.args.execution.now.rules (length s) c.in-Some.rule c.requires.none s (omega arith)
    by_result (Err fault) given = tt
