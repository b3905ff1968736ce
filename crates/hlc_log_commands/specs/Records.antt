-- The records of a log, and logs that have too many.
use Rattle.std.specs.Prelude.{◌≡◌, ⊤, ℕ, List, Option, option_map}
use Rattle.hlc_csv.specs.declared.records_fault.RecordsFault.TheVariants as records
use Rattle.hlc_json_lines.specs.Lines.{log_text}
use Rattle.hlc_json_lines.specs.Rules.{Rules}
use Rattle.hlc_log_text.specs.ReadLog.{HasTooMany}
use Rattle.hlc_log_text.specs.declared.log_rules.LogRules.{LogRules}
use Rattle.hlc_command_line.specs.declared.command_fault.CommandFault.{CommandFault}
use Rattle.hlc_command_line.specs.declared.command_fault.CommandFault.TheVariants as stop

-- the bytes of a log as text in records, if they are known: what its lines of JSON make, if these rules say how they are read
abbrev pub records_in : Option Rules → Option (List ℕ) → Option (List ℕ)
records_in json input = option_map (log_text json) input

-- if the fault is that a log has too many records, the log has more than so many, and the fault tells that number
abbrev pub IsLengthTold : (most : ℕ) → LogRules → (input : Option (List ℕ)) → CommandFault → Type 0
IsLengthTold most rules input (stop.LogTooLong told) = (told ≡ most) × HasTooMany rules most input
IsLengthTold most rules input (stop.Records records.TooLong) = ⊥
IsLengthTold most rules input _ = ⊤
