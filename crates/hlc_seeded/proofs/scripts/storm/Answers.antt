use Rattle.std.proofs.Common.{rules}
use Rattle.hlc_seeded.proofs.ScriptLengths.{storm_has_length, storm_one_each}
use Rattle.hlc_seeded.proofs.scripts.storm.Goals as goal

pub returns-clause-one_each : goal.returns-clause-one_each
returns-clause-one_each c = storm_one_each c.in_ok-scripts.field-0.items c.args.seed c.args.nodes c.args.steps c.in_ok-scripts.ensures

pub returns-clause-steps : goal.returns-clause-steps
returns-clause-steps c = storm_has_length c.in_ok-scripts.field-0.items c.args.seed c.args.nodes c.args.steps c.in_ok-scripts.ensures

pub returns-in_err-scripts-clause-fault : goal.returns-in_err-scripts-clause-fault
returns-in_err-scripts-clause-fault c = search rules

pub returns-clause-settings : goal.returns-clause-settings
returns-clause-settings c = search rules
