use Rattle.std.proofs.Common.{◌≡◌}
use Rattle.hlc_log_picture.specs.SharedDigits.{shared_by}
use Rattle.hlc_log_picture.proofs.shared_digits.shared_by_all.Given as goal

abbrev pub invariant-loop-place : goal.invariant-loop-place
invariant-loop-place l = l.shared ≡ shared_by l.log l.number l.place
