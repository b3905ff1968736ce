-- The faults of a run and of a seeded script, as a command's.
use Rattle.hlc_csv.specs.declared.records_fault.RecordsFault.TheVariants as records
use Rattle.hlc_seeded.specs.declared.storm_fault.StormFault.{StormFault}
use Rattle.hlc_seeded.specs.declared.storm_fault.StormFault.TheVariants as storm
use Rattle.hlc_text.specs.declared.text_fault.TextFault.{TextFault}
use Rattle.hlc_text.specs.declared.text_fault.TextFault.TheVariants as text
use Rattle.hlc_command_line.specs.declared.command_fault.CommandFault.{CommandFault}
use Rattle.hlc_command_line.specs.declared.command_fault.CommandFault.TheVariants as stop

-- a fault of the run of a script, as a command's
abbrev pub text_stop : TextFault → CommandFault
text_stop (text.Records fault) = stop.Records fault
text_stop text.Settings = stop.Settings

-- why there are no seeded scripts, as a command's fault
abbrev pub storm_stop : StormFault → CommandFault
storm_stop storm.BadSettings = stop.Settings
storm_stop storm.Memory = stop.Records records.Memory
