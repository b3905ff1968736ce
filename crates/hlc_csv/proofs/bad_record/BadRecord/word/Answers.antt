use Rattle.std.proofs.Common.{rules}
use Rattle.hlc_csv.proofs.bad_record.BadRecord.word.Goals as goal

pub returns-in-Fields : goal.returns-in-Fields
returns-in-Fields c = search rules
