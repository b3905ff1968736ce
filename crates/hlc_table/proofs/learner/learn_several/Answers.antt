use Rattle.std.proofs.Common.{rules}
use Rattle.hlc_table.proofs.learner.learn_several.Goals as goal

pub returns-in-Err-clause-unchanged : goal.returns-in-Err-clause-unchanged
returns-in-Err-clause-unchanged c = search rules
