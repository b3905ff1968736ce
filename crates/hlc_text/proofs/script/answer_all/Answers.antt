use Rattle.std.proofs.lemmas.Result.{IfOk-weaker}
use Rattle.hlc_text.proofs.script.answer_all.Goals as goal

pub returns : goal.returns
returns g c =
    IfOk-weaker c.answer_records.result _ _ (λ end answers. answers (g.R.Read.remaining c.args.reader) c.script_reader-input.ensures.start)
    c.answer_records.ensures
