use Rattle.std.proofs.Common.{ℕ, ◌<◌}
use Rattle.hlc_log_audit.specs.Audit.{IsBeyond}
use Rattle.hlc_log_audit.proofs.soundness.exceeds_limit.Given as goal

-- no event so far has a drift beyond the limit
abbrev pub invariant-loop-position : goal.invariant-loop-position
invariant-loop-position l = (k : ℕ) → k < l.position → ¬ IsBeyond l.limit l.log k
