use Rattle.std.proofs.lemmas.Result.{err_from_is_err_and}
use Rattle.hlc_held.proofs.held.Held.new.Goals as goal

pub returns-in_err-seats : goal.returns-in_err-seats
returns-in_err-seats g c =
    let from = err_from_is_err_and c.from_residual.result c.from_residual.ensures.1 in
    rw from.1 record { held = tt; seats = tt }
