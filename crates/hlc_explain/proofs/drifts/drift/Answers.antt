use Rattle.std.proofs.Common.{arith, rules}
use Rattle.hlc_causality.proofs.ReceiveEvents.{clock_events_size}
use Rattle.hlc_causality.proofs.TickingReceives.{least_by_readings}
use Rattle.hlc_execution.specs.Execution.{clock_of}
use Rattle.hlc_explain.proofs.DriftLaws.{clock_drift_explained, drift_explained}
use Rattle.hlc_explain.proofs.drifts.drift.Goals as goal

pub returns-clause-drift : goal.returns-clause-drift
returns-clause-drift c = record {
  furthest = c.in-Some.ensures;
  ahead = c.ahead.ensures;
  origin = c.origin.ensures.origin;
}

pub returns-clause-explained : goal.returns-clause-explained
returns-clause-explained c =
    let x = c.args.execution.now in
    clock_drift_explained (clock_of x) x.stamps (record { ahead = c.ahead.result; event = c.in-Some.event; origin = c.origin.result })
    (omega (arith, c.in-Some.ensures.event.exists, clock_events_size x.rules x.events)) c.requires c.origin.ensures.origin

pub returns-clause-ticking_drift : goal.returns-clause-ticking_drift
returns-clause-ticking_drift c = λ ticks. record {
  furthest = c.in-Some.ensures;
  ahead = c.ahead.ensures;
  origin = c.origin.ensures.ticking ticks;
}

pub returns-clause-ticking_explained : goal.returns-clause-ticking_explained
returns-clause-ticking_explained c = λ ticks.
    let x = c.args.execution.now in
    let event = c.in-Some.event in
    let least = (least_by_readings x.rules x.events ticks x.stamps).1 c.requires in
    drift_explained x.events x.stamps (record { ahead = c.ahead.result; event = event; origin = c.origin.result })
    c.in-Some.ensures.event.exists least c.ahead.ensures (c.origin.ensures.ticking ticks)

pub returns-then-node-nodes-clause-no_node : goal.returns-then-node-nodes-clause-no_node
returns-then-node-nodes-clause-no_node c = search rules

pub returns-then-node-nodes-clause-no_other_fault : goal.returns-then-node-nodes-clause-no_other_fault
returns-then-node-nodes-clause-no_other_fault c = search rules
