use Rattle.std.proofs.Common.{◌↔◌}
use Rattle.hlc_causality.specs.Causality.{HappenedBefore}
use Rattle.hlc_explain.specs.Frontier.{IsFrontier, IsInRest}
use Rattle.hlc_explain.proofs.causality.happened_before.Given as goal

-- the earlier event happened before the later one exactly if it is in the rest of the past
abbrev pub invariant-loop-earlier : goal.invariant-loop-earlier
invariant-loop-earlier l =
    let s = l.execution.events in
    record {
      frontier : IsFrontier s l.ends l.frontier;
      before : HappenedBefore s l.earlier.0 l.fn.later.0 ↔ IsInRest s l.ends l.frontier l.earlier.0;
    }

abbrev pub decreases-loop-earlier : goal.decreases-loop-earlier
decreases-loop-earlier l = l.frontier.latest.0
