use Rattle.std.proofs.lemmas.Result.{IfOk-weaker}
use Rattle.hlc_watched_log.proofs.watching.watch_log.Goals as goal

pub returns : goal.returns
returns g c = IfOk-weaker c.watch_input.result _ _ (λ outcome told. told (g.R.Read.remaining c.args.reader) c.in_ok-input.ensures) c.watch_input.ensures
