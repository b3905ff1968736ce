use Rattle.hlc_core.proofs.OneTable.{tables_are_unique}
use Rattle.hlc_core.proofs.laws.one_table.Goals as goal

pub returns : goal.returns
returns c = tables_are_unique
