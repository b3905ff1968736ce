use Rattle.hlc_arena.proofs.TableSteps.{tables_step_lem}
use Rattle.hlc_arena.proofs.laws.tables_step.Goals as goal

pub returns : goal.returns
returns c = tables_step_lem
