use Rattle.std.proofs.Common.{◌≡◌, ◌∙◌, ap, length, rules}
use Rattle.hlc_causality.specs.Causality.{Skeleton}
use Rattle.hlc_arena.proofs.Histories.{length_skeleton}
use Rattle.hlc_examples.proofs.stamp_chains.explain_stamp.Goals as goal

pub returns-in_err-list-clause-no_event : goal.returns-in_err-list-clause-no_event
returns-in_err-list-clause-no_event c =
    let size : length c.execution-execution.result.now.events ≡ length c.history.result.now.events =
    ap (λ (s : Skeleton). length s) c.execution-execution.ensures.events ∙ length_skeleton c.history.result.now.events in
    search rules

pub prove-unreachable-requires : goal.prove-unreachable-requires
prove-unreachable-requires c = search rules
