use Rattle.std.proofs.Common.{rules}
use Rattle.hlc_table.proofs.snapshots.is_next_in_cut.Goals as goal

pub returns-in-Some : goal.returns-in-Some
returns-in-Some c = search rules
