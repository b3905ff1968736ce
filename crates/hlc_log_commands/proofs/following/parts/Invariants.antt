use Rattle.std.proofs.Common.{◌≡◌, ◌++◌, ℕ, List, length}
use Rattle.hlc_log_commands.specs.Following.{log_part, questions_part}
use Rattle.hlc_log_commands.proofs.following.parts.Given as goal

-- the lines above the rest are of the log
pub record IsPassed (input rest : List ℕ) : Type 0 where
  pub above : List ℕ
  pub whole : input ≡ above ++ rest
  pub log : log_part input ≡ above ++ log_part rest
  pub questions : questions_part input ≡ questions_part rest

abbrev pub invariant-loop-line : goal.invariant-loop-line
invariant-loop-line l = IsPassed l.input l.rest

abbrev pub decreases-loop-line : goal.decreases-loop-line
decreases-loop-line l = length l.rest
