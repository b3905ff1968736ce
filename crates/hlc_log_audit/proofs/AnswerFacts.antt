-- Answers, one after another.
use Rattle.hlc_log_text.specs.declared.file_mark.FileMark.{FileMark}
use Rattle.std.proofs.Common.{List, [], ◌∷◌, ◌++◌, ℕ}
use Rattle.hlc_csv.specs.Rows.{Fields}
use Rattle.hlc_ordered_log.specs.InOrder.{LogInOrder}
use Rattle.hlc_log_text.specs.Question.{Asked}
use Rattle.hlc_log_audit.specs.Answers.{AreAnswers, IsAnswer}

module _ (files : List FileMark) (nodes : List (List ℕ)) (labels : List (ℕ × List ℕ)) (log : LogInOrder) (full : ℕ) where
  pub answers_push : (questions : List Asked) (rows : List Fields) (question : Asked) (row : Fields)
      → AreAnswers files nodes labels log full questions rows → IsAnswer files nodes labels log full question row
      → AreAnswers files nodes labels log full (questions ++ question ∷ []) (rows ++ row ∷ [])
  answers_push [] [] question row are is = (is, tt)
  answers_push [] (other ∷ rows) question row are is = absurd are
  answers_push (other ∷ questions) [] question row are is = absurd are
  answers_push (other ∷ questions) (first ∷ rows) question row are is = (are.0, answers_push questions rows question row are.1 is)

  -- answers to some questions, and then to more
  pub answers_join : (questions more : List Asked) (rows rest : List Fields) → AreAnswers files nodes labels log full questions rows
      → AreAnswers files nodes labels log full more rest → AreAnswers files nodes labels log full (questions ++ more) (rows ++ rest)
  answers_join [] more [] rest are others = others
  answers_join [] more (other ∷ rows) rest are others = absurd are
  answers_join (other ∷ questions) more [] rest are others = absurd are
  answers_join (other ∷ questions) more (first ∷ rows) rest are others = (are.0, answers_join questions more rows rest are.1 others)
