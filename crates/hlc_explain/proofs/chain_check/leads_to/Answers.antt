use Rattle.std.proofs.Common.{arith}
use Rattle.std.proofs.lemmas.Grind.{common_steps}
use Rattle.hlc_explain.proofs.chain_check.leads_to.Goals as goal

pub returns-then-not-is_direct_predecessor : goal.returns-then-not-is_direct_predecessor
returns-then-not-is_direct_predecessor c = grind (arith, common_steps)

pub loop-next-preserved : goal.loop-next-preserved
loop-next-preserved c = grind (arith, common_steps)
