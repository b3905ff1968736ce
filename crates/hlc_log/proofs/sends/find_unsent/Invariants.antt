use Rattle.std.proofs.Common.{◌<◌, ℕ}
use Rattle.hlc_log.specs.Messages.{ReceivesUnsent}
use Rattle.hlc_log.proofs.sends.find_unsent.Given as goal

abbrev pub invariant-loop-place : goal.invariant-loop-place
invariant-loop-place l = (f : ℕ) → f < l.place → ¬ ReceivesUnsent l.log.events f
