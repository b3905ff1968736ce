use Rattle.std.proofs.Common.{◌≡◌, ◌<◌, [], ◌∷◌, length, take, get_or, refl, ap, length-append, arith}
use Rattle.csv.specs.Writing.{escaped}
use Rattle.hlc_csv.specs.Rows.{row_setup}
use Rattle.hlc_log_line.proofs.RowFacts.{escaped-next}
use Rattle.hlc_log_line.proofs.row_text.escaped_length.Goals as goal

pub loop-byte-init : goal.loop-byte-init
unfolding escaped
loop-byte-init c = record { so_far = refl; most = omega arith }

pub loop-byte-preserved : goal.loop-byte-preserved
loop-byte-preserved c =
    let field = c.args.field.now in
    let i = c.loop-byte.byte-index in
    let within : i < length field = omega arith in
    let next = escaped row_setup (get_or field i 0 ∷ []) in
    let grown = ap length (escaped-next field i within) in
    record {
      so_far = omega (arith, c.loop-byte.invariant.so_far, c.escaped_size-length.ensures.length, grown, length-append (escaped row_setup (take i field)) next);
      most = omega (arith, c.loop-byte.invariant.most, c.escaped_size-length.ensures.most);
    }
