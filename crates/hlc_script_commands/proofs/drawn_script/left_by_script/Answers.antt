use Rattle.hlc_script_commands.proofs.DrawnScripts.{script_leaves_undelivered, script_noted}
use Rattle.hlc_script_commands.proofs.ScriptStops.{text_untold}
use Rattle.hlc_script_commands.proofs.drawn_script.left_by_script.Goals as goal

pub returns-in_ok-undelivered-in-Ok-clause-left : goal.returns-in_ok-undelivered-in-Ok-clause-left
returns-in_ok-undelivered-in-Ok-clause-left g c =
    script_leaves_undelivered c.args.settings _ _ _ _ _ _ c.in-Ok.ensures.ok (rw c.deref.ensures.value at c.in_ok-undelivered-in-Ok.ensures)

pub returns-in_ok-undelivered-in-Ok-clause-noted : goal.returns-in_ok-undelivered-in-Ok-clause-noted
returns-in_ok-undelivered-in-Ok-clause-noted g c =
    script_noted c.args.settings _ _ _ _ _ c.in-Ok.ensures.ok.0 c.note_on.ensures

pub returns-in-Err-clause-untold : goal.returns-in-Err-clause-untold
returns-in-Err-clause-untold g c = λ told. text_untold c.in-Err.fault (rw c.stop_of_text.ensures at told)
