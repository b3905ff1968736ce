use Rattle.hlc_arena.proofs.TableSteps.{rows_grow_lem}
use Rattle.hlc_arena.proofs.laws.rows_grow.Goals as goal

pub returns-clause-grow : goal.returns-clause-grow
returns-clause-grow c = rows_grow_lem
