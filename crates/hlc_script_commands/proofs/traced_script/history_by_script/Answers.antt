use Rattle.hlc_script_commands.proofs.DrawnScripts.{script_leaves, script_noted}
use Rattle.hlc_script_commands.proofs.ScriptStops.{text_untold}
use Rattle.hlc_script_commands.proofs.traced_script.history_by_script.Goals as goal

pub returns-in-Ok-clause-left : goal.returns-in-Ok-clause-left
returns-in-Ok-clause-left g c = script_leaves c.args.settings _ _ _ c.in-Ok.field-0 c.in-Ok.ensures.ok

pub returns-in-Ok-clause-noted : goal.returns-in-Ok-clause-noted
returns-in-Ok-clause-noted g c = script_noted c.args.settings _ _ _ c.in-Ok.field-0 _ c.in-Ok.ensures.ok c.note_on.ensures

pub returns-in-Err-clause-untold : goal.returns-in-Err-clause-untold
returns-in-Err-clause-untold g c = λ told. text_untold c.in-Err.fault (rw c.stop_of_text.ensures at told)
