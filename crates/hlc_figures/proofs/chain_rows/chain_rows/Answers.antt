use Rattle.std.proofs.lemmas.Result.{err_from_is_err_and}
use Rattle.hlc_figures.proofs.chain_rows.chain_rows.Goals as goal

pub returns-in_err-put_rows : goal.returns-in_err-put_rows
returns-in_err-put_rows c = rw (err_from_is_err_and c.from_residual.result c.from_residual.ensures.1).1 tt
