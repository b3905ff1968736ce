use Rattle.std.proofs.Common.{ℕ, ◌<◌}
use Rattle.hlc_log_picture.specs.Viewed.{IsRowOn}
use Rattle.hlc_log_picture.proofs.pictured_log.PicturedLog.row_on.Given as goal

-- no row so far is that of the line
abbrev pub invariant-loop-row : goal.invariant-loop-row
invariant-loop-row l = (k : ℕ) → k < l.row → ¬ IsRowOn l.self l.line k
