use Rattle.hlc_execution.proofs.execution.Execution.furthest_ahead.Goals as goal

pub returns : goal.returns
returns c = c.in-Some.ensures.furthest
