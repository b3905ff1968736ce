-- No answer tells of a fault of a run, and which faults say that a script is too long, or that settings are bad.
use Rattle.std.proofs.Common.{◌≡◌, ◌∙◌, ℕ, Err, List, Ok, Option, Result, ap, refl, sym}
use Rattle.std.specs.Result.{IsErrAnd}
use Rattle.hlc_stamp.specs.declared.limits.TheConstants.{MAX_RECORDS}
use Rattle.hlc_stamp.specs.declared.settings.Settings.{Settings}
use Rattle.hlc_csv.specs.declared.records_fault.RecordsFault.{RecordsFault}
use Rattle.hlc_csv.specs.declared.records_fault.RecordsFault.TheVariants as records
use Rattle.hlc_diagram.specs.declared.draw_fault.DrawFault.{DrawFault}
use Rattle.hlc_diagram.specs.declared.draw_fault.DrawFault.TheVariants as drawing
use Rattle.hlc_seeded.specs.declared.storm_fault.StormFault.{StormFault}
use Rattle.hlc_seeded.specs.declared.storm_fault.StormFault.TheVariants as storm
use Rattle.hlc_text.specs.declared.text_fault.TextFault.{TextFault}
use Rattle.hlc_text.specs.declared.text_fault.TextFault.TheVariants as text
use Rattle.hlc_text.specs.Run.{Overran}
use Rattle.hlc_command_line.specs.CommandFault.{IsOfAnswer, draw_stop}
use Rattle.hlc_command_line.specs.declared.command_fault.CommandFault.TheVariants as stop
use Rattle.hlc_script_commands.specs.ScriptStop.{storm_stop, text_stop}
use Rattle.hlc_script_commands.specs.TooLong.{IsScriptTooLong}

pub text_untold : (f : TextFault) → IsOfAnswer (text_stop f) → ⊥
text_untold (text.Records fault) told = told
text_untold text.Settings told = told

-- nor of one of a seeded script
pub storm_untold : (f : StormFault) → IsOfAnswer (storm_stop f) → ⊥
storm_untold storm.BadSettings told = told
storm_untold storm.Memory told = told

-- what a fault isn't, a result that stops with it isn't
pub err_is_not : {T E : Type 0} (r : Result T E) (e x : E) → IsErrAnd r (λ f. f ≡ e) → ¬ (e ≡ x) → ¬ (r ≡ Err x)
err_is_not (Ok v) e x is other same = is
err_is_not (Err f) e x is other same = let inner : f ≡ x = cc in other (sym is ∙ inner)

-- a run says that a script is too long, or that settings are bad, only as its own fault
pub text_too_long : (f : TextFault) → text_stop f ≡ stop.Records records.TooLong → f ≡ text.Records records.TooLong
text_too_long (text.Records fault) is = let inner : fault ≡ records.TooLong = cc in ap (λ (cause : RecordsFault). text.Records cause) inner
text_too_long text.Settings is = absurd cc

pub text_settings : (f : TextFault) → text_stop f ≡ stop.Settings → f ≡ text.Settings
text_settings (text.Records fault) is = absurd cc
text_settings text.Settings is = refl

-- no drawing says that settings are bad
pub draw_not_settings : (f : DrawFault) → ¬ (draw_stop f ≡ stop.Settings)
draw_not_settings drawing.NoEvent is = cc
draw_not_settings drawing.Write is = cc
draw_not_settings drawing.Memory is = cc

-- a run that came to the last record that is taken, and found one more, says that the script is too long
pub overran_too_long : (settings : Settings) (input before after : Option (List ℕ)) → Overran MAX_RECORDS settings input before after
    → IsScriptTooLong input
overran_too_long settings input before after run = record {
  records = run.records;
  next = run.next;
  begins = run.begins;
  full = run.full;
}
