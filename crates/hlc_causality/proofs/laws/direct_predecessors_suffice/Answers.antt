use Rattle.hlc_causality.proofs.Past.{first_step_is_direct, last_step_is_direct, walks_find_the_past}
use Rattle.hlc_causality.proofs.laws.direct_predecessors_suffice.Goals as goal

pub returns-clause-walks : goal.returns-clause-walks
returns-clause-walks c = walks_find_the_past

pub returns-clause-last_step : goal.returns-clause-last_step
returns-clause-last_step c = last_step_is_direct

pub returns-clause-first_step : goal.returns-clause-first_step
returns-clause-first_step c = first_step_is_direct
