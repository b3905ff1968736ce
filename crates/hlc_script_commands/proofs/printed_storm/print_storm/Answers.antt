use Rattle.hlc_script_commands.proofs.ScriptStops.{storm_untold}
use Rattle.hlc_script_commands.proofs.printed_storm.print_storm.Goals as goal

pub print_steps-requires : goal.print_steps-requires
print_steps-requires g c = record { one_length = (c.args.steps, rw c.deref.ensures.value c.in-Ok.ensures.steps) }

pub returns-clause-done : goal.returns-clause-done
returns-clause-done g c =
    let printed = rw c.deref.ensures.value at c.in_ok-print_steps.ensures in
    rw c.in-Ok.ensures.scripts at printed

pub returns-in-Err-clause-untold : goal.returns-in-Err-clause-untold
returns-in-Err-clause-untold g c = λ told. storm_untold c.in-Err.fault (rw c.stop_of_storm.ensures at told)
