use Rattle.hlc_explain.proofs.ClockFindings.{clock_drifts_are_found}
use Rattle.hlc_explain.proofs.Findings.{drifts_are_found, happened_before_is_tested, influenced_are_found, relations_are_found}
use Rattle.hlc_explain.proofs.ShortestPaths.{paths_are_found}
use Rattle.hlc_explain.proofs.laws.answers_are_found.Goals as goal

pub returns-clause-happened_before : goal.returns-clause-happened_before
returns-clause-happened_before c = happened_before_is_tested

pub returns-clause-relation : goal.returns-clause-relation
returns-clause-relation c = relations_are_found

pub returns-clause-influenced : goal.returns-clause-influenced
returns-clause-influenced c = influenced_are_found

pub returns-clause-path : goal.returns-clause-path
returns-clause-path c = paths_are_found

pub returns-clause-drift : goal.returns-clause-drift
returns-clause-drift c = drifts_are_found

pub returns-clause-clock_drift : goal.returns-clause-clock_drift
returns-clause-clock_drift c = clock_drifts_are_found
