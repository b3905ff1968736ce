use Rattle.std.proofs.Common.{true, ◌≡◌, ◌≤◌, length, arith, ap}
use Rattle.std.proofs.lemmas.Grind.{common_steps}
use Rattle.std.proofs.lemmas.List.{get_or_past}
use Rattle.hlc_causality.specs.ClockEvents.{ClockEvent, clock_event_at}
use Rattle.hlc_causality.proofs.ReceiveEvents.{clock_events_size}
use Rattle.hlc_execution.specs.Execution.{clock_of}
use Rattle.hlc_explain.proofs.chain_check.ticks.Goals as goal

-- what doesn't exist ticks
pub returns-then-event-len : goal.returns-then-event-len
returns-then-event-len c =
    let x = c.args.execution.now in
    let past : length (clock_of x) ≤ c.args.event.0 = omega (arith, clock_events_size x.rules x.events, c.if-event-len.true, c.len.ensures.value) in
    let ticks : (clock_event_at (clock_of x) c.args.event.0).ticks ≡ true = ap (λ (y : ClockEvent). y.ticks) (get_or_past (clock_of x) c.args.event.0 _ past) in
    grind (arith, common_steps, ticks, c.if-event-len.true)
