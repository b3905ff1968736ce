use Rattle.hlc_text.proofs.AskedByScripts.{runs_follow_the_steps, runs_leave_lawful_histories}
use Rattle.hlc_text.proofs.laws.runs_follow_the_steps.Goals as goal

pub returns-clause-steps : goal.returns-clause-steps
returns-clause-steps c = runs_follow_the_steps

pub returns-clause-lawful : goal.returns-clause-lawful
returns-clause-lawful c = runs_leave_lawful_histories
