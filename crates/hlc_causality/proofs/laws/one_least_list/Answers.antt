use Rattle.hlc_causality.proofs.LeastList.{least_list_exists, least_list_is_unique, prefixes_are_least}
use Rattle.hlc_causality.proofs.laws.one_least_list.Goals as goal

pub returns-clause-exists : goal.returns-clause-exists
returns-clause-exists c = least_list_exists

pub returns-clause-unique : goal.returns-clause-unique
returns-clause-unique c = least_list_is_unique

pub returns-clause-prefix : goal.returns-clause-prefix
returns-clause-prefix c = prefixes_are_least
