use Rattle.hlc_core.proofs.Promise.{tables_show_greatest}
use Rattle.hlc_core.proofs.laws.tables_show_greatest.Goals as goal

pub returns : goal.returns
returns c = tables_show_greatest
