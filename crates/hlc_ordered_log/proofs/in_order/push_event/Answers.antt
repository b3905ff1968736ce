use Rattle.std.proofs.Common.{◌≡◌, ◌∙◌, length, arith, ap}
use Rattle.hlc_causality.specs.Causality.{Skeleton}
use Rattle.hlc_causality.specs.ReceiveEvents.{ClockRules, clock_events, own_at}
use Rattle.hlc_execution.specs.Execution.{clock_of}
use Rattle.hlc_ordered_log.proofs.Ordering.{least_kept}
use Rattle.hlc_ordered_log.proofs.in_order.push_event.Goals as goal

pub push_least-requires-clause-few : goal.push_least-requires-clause-few
push_least-requires-clause-few c =
    let same = ap (λ (s : Skeleton). length s) (c.in_ok-reserve.ensures.events ∙ c.in_ok-give_own_rule.ensures.events) in
    let few = c.requires.few in
    omega arith

pub push_least-requires-clause-follows : goal.push_least-requires-clause-follows
push_least-requires-clause-follows c =
    rw (c.in_ok-reserve.ensures.events, c.in_ok-give_own_rule.ensures.events, c.in_ok-reserve.ensures.nodes, c.in_ok-give_own_rule.ensures.nodes)
    c.requires.follows

pub push_least-requires-clause-least : goal.push_least-requires-clause-least
push_least-requires-clause-least c =
    let room = c.in_ok-reserve.ensures in
    let given = c.in_ok-give_own_rule.ensures in
    let same : clock_of c.reserve.new.self ≡ clock_of c.give_own_rule.new.execution =
    ap (λ (rules : ClockRules). clock_events rules c.reserve.new.self.events) room.rules
    ∙ ap (λ (s : Skeleton). clock_events c.give_own_rule.new.execution.rules s) room.events in
    least_kept c.args.execution.now c.reserve.new.self (same ∙ given.clocks) (room.stamps ∙ given.stamps) c.requires.least

pub returns-clause-more : goal.returns-clause-more
returns-clause-more c =
    let room = c.in_ok-reserve.ensures in
    let given = c.in_ok-give_own_rule.ensures in
    let pushed = c.push_least.ensures in
    let rules_are = pushed.rules ∙ room.rules in
    record {
      nodes = pushed.nodes ∙ room.nodes ∙ given.nodes;
      receives = ap (λ (rules : ClockRules). rules.receives) rules_are ∙ given.receives;
      events = rw (← given.events, ← room.events) pushed.events;
      own = ap (λ (rules : ClockRules). own_at rules (length c.args.execution.now.events)) rules_are ∙ given.own;
      others = λ k lt. ap (λ (rules : ClockRules). own_at rules k) rules_are ∙ given.others k lt;
      ruled = omega (arith, ap (λ (rules : ClockRules). length rules.own) rules_are, given.size);
      least = pushed.least;
    }

pub returns-clause-place : goal.returns-clause-place
returns-clause-place c =
    c.push_least.ensures.place ∙ ap (λ (s : Skeleton). length s) (c.in_ok-reserve.ensures.events ∙ c.in_ok-give_own_rule.ensures.events)
