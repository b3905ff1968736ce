use Rattle.std.proofs.Common.{◌≡◌, ◌+◌, ◌<◌, ◌≤◌, List, ℕ, length}
use Rattle.hlc_causality.specs.ClockChain.{IsClockChainOf}
use Rattle.hlc_execution.specs.Execution.{clock_of}
use Rattle.hlc_explain.proofs.ForcingSteps.{HasChainOf}
use Rattle.hlc_explain.proofs.chains.followed_length.Given as goal

-- the chain of at is that of the event but for the events that were counted after it
abbrev pub invariant-loop-before : goal.invariant-loop-before
invariant-loop-before l =
    let t = clock_of l.execution in
    let pairs = l.execution.stamps in
    record {
      exists : l.at.0 < length l.execution.events;
      earlier : l.events + l.at.0 ≤ l.fn.event.0 + 1;
      left : (chain : List ℕ) → IsClockChainOf t pairs l.fn.event.0 chain →
          (left : ℕ) × HasChainOf t pairs l.at.0 (left + 1) × (left + l.events ≡ length chain);
    }

abbrev pub decreases-loop-before : goal.decreases-loop-before
decreases-loop-before l = l.at.0
