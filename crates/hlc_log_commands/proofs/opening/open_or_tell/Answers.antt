use Rattle.hlc_log_commands.specs.Records.{records_in}
use Rattle.hlc_log_commands.proofs.opening.open_or_tell.Goals as goal

pub returns-in-Err-clause-told : goal.returns-in-Err-clause-told
returns-in-Err-clause-told g c =
    c.tell_unopened.ensures.told c.args.rules (records_in c.args.json (g.I.Read.remaining c.args.reader)) c.in-Err.ensures.fault

pub returns-in-Err-clause-too_long : goal.returns-in-Err-clause-too_long
returns-in-Err-clause-too_long g c =
    c.tell_unopened.ensures.too_long c.args.rules (records_in c.args.json (g.I.Read.remaining c.args.reader)) c.in-Err.ensures.fault
