use Rattle.std.proofs.Common.{rules}
use Rattle.hlc_explain.proofs.summaries.fn.explain_all.par_chunks_mut_for_each.Goals as goal

pub returns : goal.returns
returns c = search rules
