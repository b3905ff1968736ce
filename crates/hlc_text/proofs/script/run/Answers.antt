use Rattle.std.proofs.lemmas.Result.{err_from_is_err_and}
use Rattle.hlc_text.proofs.RunFacts.{no_cause, no_fault, same_cause, same_fault}
use Rattle.hlc_text.proofs.script.run.Goals as goal

pub returns : goal.returns
returns g c =
    let run = c.in_ok-ran.ensures in
    record {
      ok = run.ok.0;
      read = no_fault _ _;
      too_long = no_fault _ _;
      settings = no_cause _ _ _ run.settings;
      nothing = no_fault _ _;
    }

pub returns-in_err-ran : goal.returns-in_err-ran
returns-in_err-ran g c =
    let run = c.in_err-ran.ensures in
    let from = err_from_is_err_and c.from_residual.result c.from_residual.ensures.1 in
    rw (from.1, from.2) record {
      ok = tt;
      read = same_fault _ _ run.read;
      too_long = same_fault _ _ run.too_long;
      settings = same_cause _ _ run.settings;
      nothing = same_fault _ _ run.nothing;
    }
