use Rattle.hlc_arena.proofs.EntrySteps.{entries_step_lem}
use Rattle.hlc_arena.proofs.laws.entries_step.Goals as goal

pub returns : goal.returns
returns c = entries_step_lem
