use Rattle.std.proofs.Common.{arith, ap}
use Rattle.std.proofs.lemmas.Grind.{common_steps}
use Rattle.hlc_stamp.specs.Order.{Pair}
use Rattle.hlc_causality.proofs.ReceiveEvents.{clock_events_size}
use Rattle.hlc_explain.proofs.chain_check.begins.Goals as goal

pub returns-then-first-len : goal.returns-then-first-len
returns-then-first-len c =
    let x = c.args.execution.now in
    (λ h. absurd (cc), λ h. absurd (omega (arith, h.exists, clock_events_size x.rules x.events, c.if-first-len.true, c.len.ensures.value)))

pub returns-then-floor-stamp : goal.returns-then-floor-stamp
returns-then-floor-stamp c =
    let x = c.args.execution.now in
    grind (arith, common_steps, clock_events_size x.rules x.events, ap (λ (p : Pair). p.l) c.rule.ensures.floor, ap (λ (p : Pair). p.c) c.rule.ensures.floor)
