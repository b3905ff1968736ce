use Rattle.std.proofs.Common.{◌≡◌, ◌+◌, ◌≤◌, ◌++◌, ℕ, List, length}
use Rattle.hlc_json_lines.specs.Lines.{lines_of}
use Rattle.hlc_log_text.specs.declared.question.LogQuestion.{LogQuestion}
use Rattle.hlc_log_commands.specs.Following.{AreAdded}
use Rattle.hlc_log_commands.proofs.following.add_questions.Given as goal

-- so many lines above the rest were read, and what they ask was added
pub record AreRead (text rest : List ℕ) (number : ℕ) (before after : List LogQuestion) : Type 0 where
  pub above : List (List ℕ)
  pub whole : lines_of text ≡ above ++ lines_of rest
  pub count : number ≡ length above
  pub within : number + length rest ≤ length text
  pub added : AreAdded above before after

abbrev pub invariant-loop-rest : goal.invariant-loop-rest
invariant-loop-rest l = AreRead l.text l.rest l.number l.fn.questions.items l.questions.items

abbrev pub decreases-loop-rest : goal.decreases-loop-rest
decreases-loop-rest l = length l.rest
