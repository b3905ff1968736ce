-- What was answered.
use Rattle.std.specs.Prelude.{ℕ, List, Option}
use Rattle.hlc_stamp.specs.declared.limits.TheConstants.{MAX_RECORDS}
use Rattle.hlc_stamp.specs.declared.settings.Settings.{Settings}
use Rattle.hlc_text.specs.Run.{Finished}
use Rattle.hlc_text.specs.declared.ran.Ran.{Ran}

-- the input is a script, and the output got the answer to each record
abbrev pub IsScriptAnswered : Settings → (input before after : Option (List ℕ)) → Type 0
IsScriptAnswered settings input before after = (ran : Ran) × Finished MAX_RECORDS settings input before after ran
