use Rattle.std.proofs.Common.{List, map, take}
use Rattle.hlc_csv.specs.Rows.{AddsText, Fields, text_of}
use Rattle.hlc_log_text.specs.Question.{plain_asked}
use Rattle.hlc_log_audit.specs.Answers.{AreAnswers}
use Rattle.hlc_log_audit.proofs.answer.push_answers.Given as goal

-- the questions so far have their rows
abbrev pub invariant-loop-question : goal.invariant-loop-question
invariant-loop-question g l =
    (answers : List Fields) × AreAnswers l.log.files l.log.nodes l.log.labels l.log.log l.log.full (map plain_asked (take l.question-index l.questions)) answers
    × AddsText (g.W.Write.contents l.fn.writer) (g.W.Write.contents l.writer) l.fn.rows l.rows (text_of answers)
