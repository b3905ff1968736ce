use Rattle.std.proofs.Common.{◌≡◌, drop}
use Rattle.std.specs.Prelude.{bytes_eq, find}
use Rattle.hlc_audit_forms.specs.AnswerRow.{answer_of_word, answer_rows, answer_word}
use Rattle.hlc_audit_forms.proofs.answer_row.AnswerRow.of_word.Given as goal

-- the row is found among those that are left
abbrev pub invariant-loop-row : goal.invariant-loop-row
invariant-loop-row l = find (λ r. bytes_eq (answer_word r) l.word) (drop l.row-index answer_rows) ≡ answer_of_word l.word
