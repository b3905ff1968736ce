use Rattle.std.proofs.lemmas.Result.{IfOk-weaker}
use Rattle.hlc_trace.proofs.trace.read_claims.Goals as goal

pub returns : goal.returns
returns g c =
    let bytes = g.R.Read.remaining c.args.reader in
    IfOk-weaker c.read_records.result _ _ (λ end reads. reads bytes c.script_reader-input.ensures.start) c.read_records.ensures
