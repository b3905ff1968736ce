use Rattle.std.proofs.Common.{ℕ, ◌<◌}
use Rattle.hlc_log_audit.specs.OverLimit.{IsClaimOver}
use Rattle.hlc_log_audit.proofs.soundness.claims_over.Given as goal

-- no claim so far is over the limit
abbrev pub invariant-loop-place : goal.invariant-loop-place
invariant-loop-place l = (e : ℕ) → e < l.place → ¬ IsClaimOver l.limit l.log.events e
