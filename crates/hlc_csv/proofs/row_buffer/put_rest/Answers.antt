use Rattle.std.proofs.Common.{◌∙◌, ◌<◌, length, sym, append-nil, arith}
use Rattle.std.proofs.lemmas.Result.{err_from_is_err_and}
use Rattle.csv.specs.Writing.{fields_text}
use Rattle.hlc_csv.specs.Rows.{row_field_bytes}
use Rattle.hlc_csv.proofs.RowTextFacts.{fields_text-next}
use Rattle.hlc_csv.proofs.row_buffer.put_rest.Goals as goal

pub loop-field-init : goal.loop-field-init
unfolding fields_text
loop-field-init c = sym (append-nil c.args.text.now.items)

pub loop-field-preserved : goal.loop-field-preserved
loop-field-preserved c =
    let fields = c.args.fields.now in
    let at = c.loop-field.field-index in
    let within : at < length fields = omega arith in
    rw c.loop-field.invariant at c.in_ok-put_next.ensures ∙ fields_text-next c.args.text.now.items row_field_bytes fields at _ within

pub returns-in_err-put_next : goal.returns-in_err-put_next
returns-in_err-put_next c = rw (err_from_is_err_and c.from_residual.result c.from_residual.ensures.1).1 tt
