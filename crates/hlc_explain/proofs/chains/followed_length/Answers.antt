use Rattle.std.proofs.Common.{◌<◌, length, arith}
use Rattle.hlc_causality.proofs.ClockForcing.{clock_forcing_is_earlier}
use Rattle.hlc_causality.proofs.ReceiveEvents.{clock_events_size}
use Rattle.hlc_execution.specs.Execution.{clock_of}
use Rattle.hlc_explain.proofs.ForcingSteps.{counted_chain, one_less, origin_alone}
use Rattle.hlc_explain.proofs.chains.followed_length.Goals as goal

pub loop-before-init : goal.loop-before-init
loop-before-init c =
    let x = c.args.execution.now in
    record {
      exists = c.requires;
      earlier = omega arith;
      left = λ chain h. counted_chain (clock_of x) x.stamps c.args.event.0 chain h;
    }

pub loop-before-preserved : goal.loop-before-preserved
loop-before-preserved c =
    let x = c.args.execution.now in
    let h = c.loop-before.invariant in
    let before = c.in-Some.before.0 in
    let at = c.loop-before.at.0 in
    let forces = c.in-Some.ensures.forcing in
    let earlier = clock_forcing_is_earlier (clock_of x) x.stamps before at forces in
    record {
      exists = omega (arith, h.exists, earlier);
      earlier = omega (arith, h.earlier, earlier);
      left = λ chain is.
          let left = h.left chain is in
          let less = one_less (clock_of x) x.stamps before at left.0 left.1 forces in
          (less.0, less.1, omega (arith, left.2, less.2));
    }

pub returns : goal.returns
returns c = λ chain is.
    let x = c.args.execution.now in
    let h = c.loop-before.invariant in
    let left = h.left chain is in
    let exists : c.loop-before.at.0 < length (clock_of x) = omega (arith, h.exists, clock_events_size x.rules x.events) in
    let none = origin_alone (clock_of x) x.stamps c.loop-before.at.0 left.0 exists c.in_default.ensures.forcing left.1 in
    omega (arith, left.2, none)
