use Rattle.std.proofs.Common.{◌≡◌, sym, ap, length, refl}
use Rattle.csv.proofs.WriteFacts.{escaped-double, escaped-other}
use Rattle.hlc_csv.specs.Rows.{row_setup}
use Rattle.hlc_log_line.proofs.row_text.escaped_size.Goals as goal

pub returns-then-byte-eq34-clause-length : goal.returns-then-byte-eq34-clause-length
returns-then-byte-eq34-clause-length c = sym (ap length (escaped-double row_setup c.args.byte c.if-byte-eq34.true refl))

pub returns-else-byte-eq34-clause-length : goal.returns-else-byte-eq34-clause-length
returns-else-byte-eq34-clause-length c = sym (ap length (escaped-other row_setup c.args.byte c.if-byte-eq34.false))
