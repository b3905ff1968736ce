use Rattle.hlc_causality.proofs.LeastFeasible.{least_feasible_is_computed, least_feasible_is_unique, prefixes_are_least_feasible}
use Rattle.hlc_causality.proofs.floor_laws.one_least_feasible.Goals as goal

pub returns-clause-computed : goal.returns-clause-computed
returns-clause-computed c = least_feasible_is_computed

pub returns-clause-unique : goal.returns-clause-unique
returns-clause-unique c = least_feasible_is_unique

pub returns-clause-prefix : goal.returns-clause-prefix
returns-clause-prefix c = prefixes_are_least_feasible
