use Rattle.std.proofs.Common.{◌<◌, List, [], ◌∷◌, length, reverse, arith, refl, ap, ◌∙◌, rules}
use Rattle.std.proofs.lemmas.Grind.{common_steps}
use Rattle.hlc_stamp.specs.Ids.{places_of}
use Rattle.hlc_stamp.specs.declared.id.EventId.{EventId}
use Rattle.hlc_causality.specs.ClockChain.{IsClockChainOf}
use Rattle.hlc_causality.proofs.ClockChains.{clock_chain_of_is_chain, clock_chains_force}
use Rattle.hlc_causality.proofs.ClockForcing.{clock_forcing_is_earlier}
use Rattle.hlc_causality.proofs.ReceiveEvents.{clock_events_size}
use Rattle.hlc_causality.proofs.TickingReceives.{chain_of_by_readings, explained_by_readings, forced_by_readings}
use Rattle.hlc_execution.specs.Execution.{clock_of}
use Rattle.hlc_explain.proofs.ForcingSteps.{counted_chain, has_chain, one_less, reverse_push}
use Rattle.hlc_explain.proofs.chains.chain.Goals as goal

pub push_reserved-requires : goal.push_reserved-requires
push_reserved-requires c =
    let x = c.args.execution.now in
    let here : c.args.event.0 < length c.args.execution.now.events = grind (arith, c.in-Some.is, c.get.ensures.none.1) in
    let chain = has_chain x c.args.event.0 here in
    let left = counted_chain (clock_of x) x.stamps c.args.event.0 chain.0 chain.1 in
    let made = c.chain_length.ensures chain.0 chain.1 in
    omega (arith, made, left.2, c.in_ok-chain.ensures.len, c.in_ok-chain.ensures.capacity)

pub loop-before-init : goal.loop-before-init
loop-before-init c =
    let x = c.args.execution.now in
    let here : c.args.event.0 < length c.args.execution.now.events = grind (arith, c.in-Some.is, c.get.ensures.none.1) in
    let chain = has_chain x c.args.event.0 here in
    let left = counted_chain (clock_of x) x.stamps c.args.event.0 chain.0 chain.1 in
    let made = c.chain_length.ensures chain.0 chain.1 in
    let pushed = c.push_reserved.ensures in
    let new = c.in_ok-chain.ensures in
    let reversed = reverse_push c.in_ok-chain.chain.items c.push_reserved.new.self.items c.args.event pushed.items in
    record {
      exists = here;
      left = (left.0, left.1, omega (arith, made, left.2, new.len, new.capacity, pushed.len, pushed.capacity));
      rest = ([], reversed ∙ ap (λ (ids : List EventId). c.args.event ∷ reverse ids) new.items, refl);
    }

pub loop-before-smaller : goal.loop-before-smaller
loop-before-smaller c =
    let x = c.args.execution.now in
    clock_forcing_is_earlier (clock_of x) x.stamps c.in-Some-forcing.before.0 c.loop-before.at.0 c.in-Some-forcing.ensures.forcing

pub push_reserved-requires-in-Some-forcing : goal.push_reserved-requires-in-Some-forcing
push_reserved-requires-in-Some-forcing c =
    let x = c.args.execution.now in
    let left = c.loop-before.invariant.left in
    let less = one_less (clock_of x) x.stamps c.in-Some-forcing.before.0 c.loop-before.at.0 left.0 left.1 c.in-Some-forcing.ensures.forcing in
    omega (arith, left.2, less.2)

pub loop-before-preserved : goal.loop-before-preserved
loop-before-preserved c =
    let x = c.args.execution.now in
    let at = c.loop-before.at in
    let before = c.in-Some-forcing.before in
    let forces = c.in-Some-forcing.ensures.forcing in
    let h = c.loop-before.invariant in
    let earlier = clock_forcing_is_earlier (clock_of x) x.stamps before.0 at.0 forces in
    let less = one_less (clock_of x) x.stamps before.0 at.0 h.left.0 h.left.1 forces in
    let pushed = c.push_reserved-in-Some-forcing in
    let reversed = reverse_push c.loop-before.chain.items pushed.new.self.items before pushed.ensures.items in
    record {
      exists = omega (arith, h.exists, earlier);
      left = (less.0, less.1, omega (arith, h.left.2, less.2, pushed.ensures.len, pushed.ensures.capacity));
      rest = (
        at ∷ h.rest.0,
        reversed ∙ ap (λ (ids : List EventId). before ∷ ids) h.rest.1,
        (forces, h.rest.2),
      );
    }

pub returns-clause-chain : goal.returns-clause-chain
returns-clause-chain c =
    let x = c.args.execution.now in
    let h = c.loop-before.invariant in
    let size = clock_events_size x.rules x.events in
    let chain : IsClockChainOf (clock_of x) x.stamps c.args.event.0 (places_of (c.loop-before.at ∷ h.rest.0)) =
    record { exists = omega (arith, h.exists, size); origin = c.in_default-forcing.ensures.forcing; forces = h.rest.2 } in
    grind (arith, common_steps, chain)

pub returns-clause-explains : goal.returns-clause-explains
returns-clause-explains c =
    let x = c.args.execution.now in
    let size = clock_events_size x.rules x.events in
    let here : c.args.event.0 < length c.args.execution.now.events = grind (arith, c.in-Some.is, c.get.ensures.none.1) in
    record {
      exists = omega (arith, here, size);
      chain = clock_chain_of_is_chain (clock_of x) x.stamps c.args.event.0 _ c.requires (returns-clause-chain c);
    }

pub returns-clause-forces : goal.returns-clause-forces
returns-clause-forces c =
    let x = c.args.execution.now in
    clock_chains_force (clock_of x) _ c.args.event.0 _ (returns-clause-explains c).chain

pub returns-clause-ticking_chain : goal.returns-clause-ticking_chain
returns-clause-ticking_chain c = λ ticks.
    let x = c.args.execution.now in
    chain_of_by_readings x.rules x.events ticks x.stamps c.args.event.0 _ (returns-clause-chain c)

pub returns-clause-ticking_explains : goal.returns-clause-ticking_explains
returns-clause-ticking_explains c = λ ticks.
    let x = c.args.execution.now in
    (explained_by_readings x.rules x.events ticks x.stamps c.args.event.0 _).1 (returns-clause-explains c)

pub returns-clause-ticking_forces : goal.returns-clause-ticking_forces
returns-clause-ticking_forces c = λ ticks.
    let x = c.args.execution.now in
    forced_by_readings x.rules x.events ticks x.stamps c.args.event.0 (returns-clause-forces c)

pub returns-in_err-chain-clause-no_other_fault : goal.returns-in_err-chain-clause-no_other_fault
returns-in_err-chain-clause-no_other_fault c = search rules
