use Rattle.hlc_core.proofs.TableEntries.{tables_converge_lem}
use Rattle.hlc_core.proofs.laws.tables_converge.Goals as goal

pub returns : goal.returns
returns c = tables_converge_lem
