use Rattle.std.proofs.Common.{rules}
use Rattle.hlc_csv.proofs.retrying_reader.RetryingReaderRead.read.Goals as goal

pub returns-in_default-clause-retried : goal.returns-in_default-clause-retried
returns-in_default-clause-retried g c = search rules
