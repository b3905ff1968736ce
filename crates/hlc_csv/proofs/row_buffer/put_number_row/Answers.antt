use Rattle.std.proofs.Common.{◌∙◌, decimal, map}
use Rattle.std.proofs.lemmas.Result.{err_from_is_err_and, on_ok_weaker}
use Rattle.hlc_csv.proofs.RowTextFacts.{row-ended, row_body-last, row_body-parts}
use Rattle.hlc_csv.proofs.row_buffer.put_number_row.Goals as goal
use Rattle.hlc_csv.proofs.row_buffer.put_number_row.Goals.{in-Some+in_ok-put_next, in_default}

pub returns : goal.returns
returns c =
    let numbers = rw c.in_ok-put_text.ensures at c.in_ok-put_numbers.ensures in
    let text = c.args.text.now in
    let word = c.args.word.now in
    let digits = map decimal c.args.numbers.now in
    let start = c.len-start.ensures ∙ text.ok.0 in
    elim c.match-last.branch [
      | in-Some+in_ok-put_next w ↦
          let all = rw numbers at w.in_ok-put_next.ensures ∙ row_body-last text.items word digits w.in-Some.last.now in
          let ends = rw w.text-is at c.end_row.ensures in
          rw w.in-Some.is (on_ok_weaker c.end_row.result (row-ended _ _ _ _ _ start all) ends)
      | in_default w ↦
          let all = numbers ∙ row_body-parts text.items word digits in
          let ends = rw w.text-is at c.end_row.ensures in
          rw w.in_default.is (on_ok_weaker c.end_row.result (row-ended _ _ _ _ _ start all) ends)
    ]

pub returns-in_err-put_text : goal.returns-in_err-put_text
returns-in_err-put_text c = rw (err_from_is_err_and c.from_residual.result c.from_residual.ensures.1).1 tt

pub returns-in_err-put_numbers : goal.returns-in_err-put_numbers
returns-in_err-put_numbers c = rw (err_from_is_err_and c.from_residual-in_err-put_numbers.result c.from_residual-in_err-put_numbers.ensures.1).1 tt
