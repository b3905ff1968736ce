use Rattle.hlc_execution.proofs.execution.Execution.first_at.Goals as goal

pub returns : goal.returns
returns c = c.in-Some.ensures.first
