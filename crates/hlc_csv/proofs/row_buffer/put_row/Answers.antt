use Rattle.std.proofs.Common.{◌∙◌}
use Rattle.std.proofs.lemmas.Result.{err_from_is_err_and, on_ok_weaker}
use Rattle.hlc_csv.proofs.RowTextFacts.{row-ended}
use Rattle.hlc_csv.proofs.row_buffer.put_row.Goals as goal

pub returns : goal.returns
returns c =
    let begins = c.len-start.ensures ∙ c.args.text.now.ok.0 in
    on_ok_weaker c.end_row.result (row-ended _ _ _ _ _ begins c.in_ok-put_body.ensures) c.end_row.ensures

pub returns-in_err-put_body : goal.returns-in_err-put_body
returns-in_err-put_body c = rw (err_from_is_err_and c.from_residual.result c.from_residual.ensures.1).1 tt
