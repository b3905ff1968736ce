use Rattle.std.proofs.Common.{ℕ, ◌-◌, ◌^◌, ◌<◌}
use Rattle.hlc_execution.specs.Execution.{clock_of}
use Rattle.hlc_causes.specs.Causes.{IsCause}
use Rattle.hlc_log_examples.proofs.first_causes.first_cause.Given as goal

abbrev pub invariant-loop-place : goal.invariant-loop-place
invariant-loop-place l = (e : ℕ) → e < l.place → ¬ IsCause (clock_of l.execution) l.stamps.items (2 ^ 32 - 1) e
