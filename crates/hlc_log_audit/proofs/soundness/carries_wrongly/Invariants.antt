use Rattle.std.proofs.Common.{◌≡◌, None, ℕ, ◌<◌}
use Rattle.hlc_ordered_log.specs.InOrder.{wrong_of}
use Rattle.hlc_log_audit.proofs.soundness.carries_wrongly.Given as goal

-- no message so far carried another stamp
abbrev pub invariant-loop-position : goal.invariant-loop-position
invariant-loop-position l = (k : ℕ) → k < l.position → wrong_of l.log k ≡ None
