use Rattle.std.proofs.Common.{refl}
use Rattle.std.proofs.lemmas.Result.{err_from_is_err_and}
use Rattle.hlc_text.proofs.FaultFacts.{handed_out}
use Rattle.hlc_text.proofs.answers.Answers.finish.Goals as goal

pub returns : goal.returns
returns g c = record {
  sent = rw c.in_ok-end.was (rw (c.branch-read.ensures, c.in_ok-read.is) at (handed_out c.in_ok-end.field-0 _ _ c.all_read-read.ensures c.in_ok-finish.ensures));
  records = refl;
  refused = refl;
  events = c.from.ensures;
}

pub returns-in_err-read-clause-sent : goal.returns-in_err-read-clause-sent
returns-in_err-read-clause-sent g c =
    let ended = rw (c.branch-read.ensures, c.in_err-read.is) at (handed_out c.in_ok-end.field-0 _ _ c.all_read-read.ensures c.in_ok-finish.ensures) in
    let fault = err_from_is_err_and c.from_residual-in_err-read.result c.from_residual-in_err-read.ensures.1 in
    rw (c.in_ok-end.was, fault.1, fault.2) ended
