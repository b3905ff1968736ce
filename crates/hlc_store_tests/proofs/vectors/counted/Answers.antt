use Rattle.std.proofs.Common.{ℕ, List, length, arith, ap}
use Rattle.hlc_causality.specs.Causality.{Skeleton}
use Rattle.hlc_explain.proofs.KeptCounts.{length-vectors_of}
use Rattle.hlc_store_tests.proofs.vectors.counted.Goals as goal

pub returns : goal.returns
returns c =
    let execution = c.in_ok-execution.execution in
    let len = length-vectors_of execution.events execution.nodes in
    let same = ap (λ (vectors : List (List ℕ)). length vectors) c.in_ok-counted.ensures in
    let four = ap (λ (s : Skeleton). length s) c.in_ok-execution.ensures.events in
    omega arith
