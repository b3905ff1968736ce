use Rattle.std.proofs.Common.{◌≡◌, ◌<◌, [], ◌∷◌, ℕ, List, Bor, length, take, get_or, refl, ap, length-append, arith}
use Rattle.csv.specs.Writing.{field_text, fields_text}
use Rattle.hlc_csv.specs.Rows.{row_setup}
use Rattle.hlc_log_line.proofs.RowFacts.{bytes_of, fields-next}
use Rattle.hlc_log_line.proofs.row_text.rest_length.Goals as goal

pub loop-field-init : goal.loop-field-init
unfolding fields_text
loop-field-init c = record { so_far = refl; most = omega arith }

pub loop-field-preserved : goal.loop-field-preserved
loop-field-preserved c =
    let fields = c.args.fields.now in
    let i = c.loop-field.field-index in
    let within : i < length fields = omega arith in
    let d : Bor (List ℕ) = record { ref_ptr = (0, 0); now = [] } in
    let next = 44 ∷ field_text row_setup (get_or fields i d).now in
    let grown = ap length (fields-next fields i d within) in
    record {
      so_far = omega (
        arith,
        c.loop-field.invariant.so_far,
        c.field_length.ensures.length,
        grown,
        length-append (fields_text row_setup (bytes_of (take i fields))) next,
      );
      most = omega (arith, c.loop-field.invariant.most, c.field_length.ensures.most);
    }
