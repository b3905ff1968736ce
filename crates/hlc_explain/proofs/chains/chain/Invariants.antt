use Rattle.std.proofs.Common.{◌≡◌, ◌<◌, ◌≤◌, List, ℕ, ◌∷◌, length, reverse, vec_capacity, vec_len, ◌+◌}
use Rattle.hlc_stamp.specs.Ids.{places_of}
use Rattle.hlc_stamp.specs.declared.id.EventId.{EventId}
use Rattle.hlc_causality.specs.ClockChain.{ClockForcesAlong}
use Rattle.hlc_execution.specs.Execution.{clock_of}
use Rattle.hlc_explain.proofs.ForcingSteps.{HasChainOf}
use Rattle.hlc_explain.proofs.chains.chain.Given as goal

-- so far the chain goes, from its end, by forcing events from at to the event, and has room for what is left
abbrev pub invariant-loop-before : goal.invariant-loop-before
invariant-loop-before l =
    let t = clock_of l.execution in
    let pairs = l.execution.stamps in
    record {
      exists : l.at.0 < length l.execution.events;
      left : (left : ℕ) × HasChainOf t pairs l.at.0 (left + 1) × (vec_len l.chain + left ≤ vec_capacity l.chain);
      rest : (rest : List EventId) × (reverse l.chain.items ≡ l.at ∷ rest) × ClockForcesAlong t pairs l.at.0 (places_of rest) l.fn.event.0;
    }

abbrev pub decreases-loop-before : goal.decreases-loop-before
decreases-loop-before l = l.at.0
