-- Which faults tell of logs that are too long.
use Rattle.std.proofs.Common.{ℕ, List, Option}
use Rattle.hlc_csv.specs.declared.records_fault.RecordsFault.TheVariants as records
use Rattle.hlc_log_text.specs.declared.log_rules.LogRules.{LogRules}
use Rattle.hlc_command_line.specs.CommandFault.{IsOfInput}
use Rattle.hlc_command_line.specs.declared.command_fault.CommandFault.{CommandFault}
use Rattle.hlc_command_line.specs.declared.command_fault.CommandFault.TheVariants as stop
use Rattle.hlc_log_commands.specs.Records.{IsLengthTold}

-- only one of the input does
pub no_length : (most : ℕ) (rules : LogRules) (input : Option (List ℕ)) (fault : CommandFault) → ¬ IsOfInput fault → IsLengthTold most rules input fault
no_length most rules input stop.NoEvent not = tt
no_length most rules input (stop.Records records.Read) not = tt
no_length most rules input (stop.Records records.TooLong) not = not tt
no_length most rules input (stop.Records records.Write) not = tt
no_length most rules input (stop.Records records.Memory) not = tt
no_length most rules input stop.BadLog not = tt
no_length most rules input stop.EmptyLog not = tt
no_length most rules input stop.BrokenStamps not = tt
no_length most rules input stop.OverLimit not = tt
no_length most rules input stop.Settings not = tt
no_length most rules input (stop.Mismatch node) not = tt
no_length most rules input (stop.GateShut node) not = tt
no_length most rules input (stop.LogTooLong told) not = absurd (not tt)
no_length most rules input (stop.NoQuestion line) not = tt
