use Rattle.std.proofs.Common.{rules}
use Rattle.hlc_csv.proofs.RowTextFacts.{field_text-decimal}
use Rattle.hlc_csv.proofs.row_buffer.put_number.Goals as goal

pub returns : goal.returns
returns c = rw (field_text-decimal c.args.number c.ranges.number.fits) (search rules)
