use Rattle.hlc_causality.proofs.ReceiveEvents.{rules_keep_previous, rules_keep_sends, ticking_receives_tick}
use Rattle.hlc_causality.proofs.floor_laws.receives_are_rules.Goals as goal

pub returns-clause-tick : goal.returns-clause-tick
returns-clause-tick c = ticking_receives_tick

pub returns-clause-previous : goal.returns-clause-previous
returns-clause-previous c = rules_keep_previous

pub returns-clause-sends : goal.returns-clause-sends
returns-clause-sends c = rules_keep_sends
