use Rattle.hlc_arena.proofs.Entries.{nodes_converge_lem}
use Rattle.hlc_arena.proofs.laws.nodes_converge.Goals as goal

pub returns : goal.returns
returns c = nodes_converge_lem
