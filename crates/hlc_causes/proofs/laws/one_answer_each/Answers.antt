use Rattle.hlc_causes.proofs.CauseLaws.{causes_are_named, causes_are_unique, causes_break_the_rule, no_cause_keeps_rule}
use Rattle.hlc_causes.proofs.laws.one_answer_each.Goals as goal

pub returns-clause-exists : goal.returns-clause-exists
returns-clause-exists c = causes_are_named

pub returns-clause-unique : goal.returns-clause-unique
returns-clause-unique c = causes_are_unique

pub returns-clause-kept : goal.returns-clause-kept
returns-clause-kept c = no_cause_keeps_rule

pub returns-clause-breaks_rule : goal.returns-clause-breaks_rule
returns-clause-breaks_rule c = causes_break_the_rule
