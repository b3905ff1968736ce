use Rattle.std.proofs.lemmas.Grind.{common_steps}
use Rattle.std.proofs.Common.{ℕ, ◌<◌, ◌≤◌, length, arith, rules, subst, sym}
use Rattle.hlc_causality.specs.ClockChain.{BeginsClockChain}
use Rattle.std.proofs.lemmas.Bool.{both_ways}
use Rattle.hlc_stamp.specs.Ids.{places_of}
use Rattle.hlc_causality.proofs.ClockChains.{clock_chains_force}
use Rattle.hlc_causality.proofs.ReceiveEvents.{clock_events_size}
use Rattle.hlc_causality.proofs.TickingReceives.{explained_by_readings, forced_by_readings}
use Rattle.hlc_execution.specs.Execution.{clock_of}
use Rattle.hlc_explain.proofs.ChainParts.{explained_by_parts, first_of}
use Rattle.hlc_explain.proofs.chain_check.check_chain.Goals as goal

pub returns-then-begins-clause-chain : goal.returns-then-begins-clause-chain
returns-then-begins-clause-chain c =
    let s = c.args.execution.now.events in
    let pairs = c.args.execution.now.stamps in
    let event = c.args.event.0 in
    let exists : event < length s = grind (arith, c.in-Some.is, c.get.ensures.none.1) in
    let bears = sym c.in-Some.ensures.stamp in
    let parts = explained_by_parts c.args.execution.now.rules s pairs event c.in-Some.record.stamp c.args.list.now bears exists c.in-len1-up.len_at_least in
    let begun = subst (λ n. BeginsClockChain (clock_of c.args.execution.now) (first_of c.args.list.now).0 n c.in-Some.record.stamp)
    c.ticks_among.ensures (c.begins.ensures.0 c.if-begins.true) in
    (λ h. parts.1 (begun, c.leads_to.ensures.0 h), λ h. c.leads_to.ensures.1 (parts.0 h).1)

pub returns-else-begins-clause-chain : goal.returns-else-begins-clause-chain
returns-else-begins-clause-chain c =
    let s = c.args.execution.now.events in
    let pairs = c.args.execution.now.stamps in
    let event = c.args.event.0 in
    let exists : event < length s = grind (arith, c.in-Some.is, c.get.ensures.none.1) in
    let bears = sym c.in-Some.ensures.stamp in
    let parts = explained_by_parts c.args.execution.now.rules s pairs event c.in-Some.record.stamp c.args.list.now bears exists c.in-len1-up.len_at_least in
    let begins = λ (n : ℕ). BeginsClockChain (clock_of c.args.execution.now) (first_of c.args.list.now).0 n c.in-Some.record.stamp in (
      λ h. absurd (both_ways c.begins.result c.if-begins.false h),
      λ h. c.begins.ensures.1 (subst begins (sym c.ticks_among.ensures) (parts.0 h).0),
    )

pub returns-then-begins-clause-forces : goal.returns-then-begins-clause-forces
returns-then-begins-clause-forces c = λ h.
    let x = c.args.execution.now in
    clock_chains_force (clock_of x) _ c.args.event.0 (places_of c.args.list.now) ((returns-then-begins-clause-chain c).0 h).chain

pub returns-then-begins-clause-ticking_chain : goal.returns-then-begins-clause-ticking_chain
returns-then-begins-clause-ticking_chain c = λ ticks.
    let x = c.args.execution.now in
    let same = explained_by_readings x.rules x.events ticks x.stamps c.args.event.0 (places_of c.args.list.now) in
    let chain = returns-then-begins-clause-chain c in
    (λ h. same.1 (chain.0 h), λ h. chain.1 (same.0 h))

pub returns-then-begins-clause-ticking_forces : goal.returns-then-begins-clause-ticking_forces
returns-then-begins-clause-ticking_forces c = λ ticks h.
    let x = c.args.execution.now in
    forced_by_readings x.rules x.events ticks x.stamps c.args.event.0 (returns-then-begins-clause-forces c h)

pub returns-else-begins-clause-ticking_chain : goal.returns-else-begins-clause-ticking_chain
returns-else-begins-clause-ticking_chain c = λ ticks.
    let x = c.args.execution.now in
    let same = explained_by_readings x.rules x.events ticks x.stamps c.args.event.0 (places_of c.args.list.now) in
    let chain = returns-else-begins-clause-chain c in
    (λ h. same.1 (chain.0 h), λ h. chain.1 (same.0 h))

pub returns-in-empty-clause-chain : goal.returns-in-empty-clause-chain
returns-in-empty-clause-chain c = grind (arith, common_steps)

pub returns-in-empty-clause-forces : goal.returns-in-empty-clause-forces
returns-in-empty-clause-forces c = search rules

pub returns-in_default-clause-chain : goal.returns-in_default-clause-chain
returns-in_default-clause-chain c =
    let x = c.args.execution.now in
    let none : length x.events ≤ c.args.event.0 = grind (arith, c.in_default.is, c.get.ensures.none.0) in
    (λ h. absurd (cc), λ h. absurd (omega (arith, h.exists, none, clock_events_size x.rules x.events)))
