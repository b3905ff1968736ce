use Rattle.std.proofs.Common.{rules}
use Rattle.hlc_csv.proofs.records_fault.RecordsFaultFromOutputFault.from.Goals as goal

pub returns-in-Write : goal.returns-in-Write
returns-in-Write c = search rules
