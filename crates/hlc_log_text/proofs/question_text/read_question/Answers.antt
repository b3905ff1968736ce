use Rattle.std.proofs.Common.{subst, sym}
use Rattle.csv.specs.Records.{fields_of}
use Rattle.hlc_log_text.specs.Question.{FindsQuestion}
use Rattle.hlc_log_text.proofs.QuestionTexts.{finds_none, finds_read}
use Rattle.hlc_log_text.proofs.question_text.read_question.Goals as goal

pub returns-then-not-branch : goal.returns-then-not-branch
returns-then-not-branch g c = λ text start.
    finds_none text (fields_of c.is_one_record.new.fields) (rw c.if-not-branch.true at (c.in_ok-is_one_record.ensures text start))

pub returns : goal.returns
returns g c = λ text start.
    let one = rw c.if-not-branch.false at (c.in_ok-is_one_record.ensures text start) in
    subst (FindsQuestion text) (sym c.ok.ensures.value)
    (finds_read text (fields_of c.is_one_record.new.fields) one.0 one.1 c.in_ok-parse.field-0 c.in_ok-parse.ensures)
