use Rattle.std.proofs.Common.{◌≡◌, ◌≢◌, [], ◌∷◌, length, refl, sym, ap, arith}
use Rattle.csv.specs.Writing.{escaped}
use Rattle.csv.proofs.WriteFacts.{escaped-double, escaped-other}
use Rattle.hlc_csv.specs.Rows.{row_setup}
use Rattle.hlc_log_line.proofs.row_text.put_escaped.Goals as goal

pub put-requires : goal.put-requires
put-requires c =
    let twice = escaped-double row_setup c.args.byte c.if-byte-eq34.true refl in
    omega (arith, c.requires, ap length twice)

pub put-requires-else-byte-eq34 : goal.put-requires-else-byte-eq34
put-requires-else-byte-eq34 c =
    let once = escaped-other row_setup c.args.byte c.if-byte-eq34.false in
    omega (arith, c.requires, ap length once)

pub returns-then-byte-eq34 : goal.returns-then-byte-eq34
returns-then-byte-eq34 c =
    let is : c.args.byte ≡ 34 = c.if-byte-eq34.true in
    rw (escaped-double row_setup c.args.byte is refl) (rw is c.put.ensures)

pub returns-else-byte-eq34 : goal.returns-else-byte-eq34
returns-else-byte-eq34 c = rw (escaped-other row_setup c.args.byte c.if-byte-eq34.false) c.put-else-byte-eq34.ensures
