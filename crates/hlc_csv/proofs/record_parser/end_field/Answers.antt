use Rattle.std.proofs.lemmas.Result.{err_from_is_err_and}
use Rattle.hlc_csv.proofs.record_parser.end_field.Goals as goal

pub returns-in_err-push_field : goal.returns-in_err-push_field
returns-in_err-push_field c = rw (err_from_is_err_and c.from_residual.result c.from_residual.ensures.1).1 record { fields = tt; partial = tt; field = tt }
