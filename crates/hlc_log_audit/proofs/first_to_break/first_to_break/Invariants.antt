use Rattle.std.proofs.Common.{◌≡◌, ℕ, ◌<◌}
use Rattle.hlc_causality.specs.Causality.{skeleton_at}
use Rattle.hlc_ordered_log.specs.InOrder.{skeleton_of}
use Rattle.hlc_log_audit.specs.FirstToBreak.{BreaksBy}
use Rattle.hlc_log_audit.proofs.first_to_break.first_to_break.Given as goal

-- none of the node's events so far breaks the rule
abbrev pub invariant-loop-place : goal.invariant-loop-place
invariant-loop-place l =
    (k : ℕ) → k < l.place → (skeleton_at (skeleton_of l.log) k).node ≡ l.node.0 → ¬ BreaksBy l.log l.full l.word k
