use Rattle.std.proofs.Common.{refl}
use Rattle.std.proofs.lemmas.Result.{err_from_is_err_and}
use Rattle.clap.specs.Walk.{texts}
use Rattle.hlc_command_line.proofs.AskedFacts.{neither_among, text_at}
use Rattle.hlc_command_line.proofs.asked.asked_by.Goals as goal

pub returns-in_err-add_value-clause-other : goal.returns-in_err-add_value-clause-other
returns-in_err-add_value-clause-other c =
    let from = err_from_is_err_and c.from_residual.result c.from_residual.ensures.1 in
    let values = c.args.values.now in
    let i = c.loop-value.value-index in
    rw (from.1, from.2)
    (neither_among (texts values) i _ c.in_err-add_value.field-0.0 (text_at values i _ _ c.loop-value-test.true refl) c.in_err-add_value.ensures.other)
