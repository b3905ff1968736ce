use Rattle.std.proofs.Common.{[], Some}
use Rattle.csv.specs.Records.{fields_of}
use Rattle.hlc_log_text.proofs.QuestionTexts.{is_one-if, not_one-empty, not_one-open}
use Rattle.hlc_log_text.proofs.question_text.is_one_record.Goals as goal

pub returns-in_default : goal.returns-in_default
returns-in_default g c = λ text start.
    let read = rw c.in_default.is at c.in_ok-found.ensures in
    not_one-empty text (fields_of c.read_record.new.fields) (read (Some text) [] [] start).all

pub returns-then-found : goal.returns-then-found
returns-then-found g c = λ text start.
    let read = rw c.in-Some.is at c.in_ok-found.ensures in
    let one = rw c.if-found.true at (read (Some text) [] [] start) in
    not_one-open text (fields_of c.read_record.new.fields) one.ends.1

pub returns : goal.returns
returns g c = λ text start.
    let read = rw c.in-Some.is at c.in_ok-found.ensures in
    let one = rw c.if-found.false at (read (Some text) [] [] start) in
    is_one-if text g.R.Read.remaining c.read_record.new.input c.read_record-2.new.input (fields_of c.read_record.new.fields)
    (fields_of c.read_record-2.new.fields) c.in-Some.found.line c.in_ok-read_record.field-0 c.is_none.result c.is_none.ensures c.in_ok-read_record.ensures one.0
