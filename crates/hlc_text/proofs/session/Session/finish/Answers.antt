use Rattle.std.proofs.lemmas.Result.{err_from_is_err_and}
use Rattle.hlc_text.proofs.session.Session.finish.Goals as goal

pub returns-in_err-counts : goal.returns-in_err-counts
returns-in_err-counts g c =
    let from = err_from_is_err_and c.from_residual.result c.from_residual.ensures.1 in
    rw (from.1, from.2) record {
      sent = c.in_err-counts.ensures.sent;
      records = tt;
      refused = tt;
      events = tt;
      history = tt;
      notes = tt;
    }
