use Rattle.std.proofs.Common.{arith, refl, ◌∷◌, []}
use Rattle.hlc_causality.proofs.ClockForcing.{clock_forcing_is_earlier}
use Rattle.hlc_causality.proofs.ReceiveEvents.{clock_events_size}
use Rattle.hlc_causality.proofs.TickingReceives.{origin_by_readings}
use Rattle.hlc_execution.specs.Execution.{clock_of}
use Rattle.hlc_execution.proofs.execution.Execution.origin.Goals as goal

pub loop-before-init : goal.loop-before-init
loop-before-init c = record { exists = c.requires; rest = ([], refl) }

pub loop-before-preserved : goal.loop-before-preserved
loop-before-preserved c =
    let execution = c.args.self.now in
    let h = c.loop-before.invariant in
    let forces = c.in-Some.ensures.forcing in
    let earlier = clock_forcing_is_earlier (clock_of execution) execution.stamps c.in-Some.before.0 c.loop-before.at.0 forces in
    record {
      exists = let within = h.exists in omega arith;
      rest = (c.loop-before.at.0 ∷ h.rest.0, (forces, h.rest.1));
    }

pub returns-clause-origin : goal.returns-clause-origin
returns-clause-origin c =
    let h = c.loop-before.invariant in
    (h.rest.0, record { exists = omega (arith, h.exists, clock_events_size c.args.self.now.rules c.args.self.now.events); origin = c.in_default.ensures.forcing; forces = h.rest.1 })

pub returns-clause-ticking : goal.returns-clause-ticking
returns-clause-ticking c = λ ticks.
    let x = c.args.self.now in
    origin_by_readings x.rules x.events ticks x.stamps c.args.id.0 _ (returns-clause-origin c)
