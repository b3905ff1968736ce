use Rattle.std.proofs.Common.{rules}
use Rattle.hlc_shared.proofs.jobs.both.Goals as goal

pub returns-in-Ok-Err : goal.returns-in-Ok-Err
returns-in-Ok-Err g c = search rules
