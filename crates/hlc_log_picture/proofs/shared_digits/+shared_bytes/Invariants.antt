use Rattle.std.proofs.Common.{length}
use Rattle.hlc_log_picture.proofs.shared_digits.+shared_bytes.Given as goal

abbrev pub decreases-shared_bytes : goal.decreases-shared_bytes
decreases-shared_bytes l = length l.one.now
