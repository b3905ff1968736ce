-- What stops a command.
use Rattle.std.specs.Prelude.{⊤, ℕ, ◌++◌, List, codes, decimal}
use Rattle.hlc_csv.specs.Fault.{records_fault_of, records_fault_text}
use Rattle.hlc_csv.specs.declared.output_fault.OutputFault.{OutputFault}
use Rattle.hlc_csv.specs.declared.records_fault.RecordsFault.TheVariants as records
use Rattle.hlc_diagram.specs.declared.draw_fault.DrawFault.{DrawFault}
use Rattle.hlc_diagram.specs.declared.draw_fault.DrawFault.TheVariants as drawing
use Rattle.hlc_command_line.specs.declared.command_fault.CommandFault.{CommandFault}
use Rattle.hlc_command_line.specs.declared.command_fault.CommandFault.TheVariants as stop

-- a fault of the output, as a command's
abbrev pub output_stop : OutputFault → CommandFault
output_stop fault = stop.Records (records_fault_of fault)

-- a fault of a drawing, as a command's
abbrev pub draw_stop : DrawFault → CommandFault
draw_stop drawing.NoEvent = stop.NoEvent
draw_stop drawing.Write = stop.Records records.Write
draw_stop drawing.Memory = stop.Records records.Memory

-- what a fault says
abbrev pub fault_text : CommandFault → List ℕ
fault_text stop.NoEvent = codes "no such event"
fault_text stop.BadLog = codes "bad log"
fault_text stop.EmptyLog = codes "no events"
fault_text stop.BrokenStamps = codes "broken stamps"
fault_text stop.OverLimit = codes "over the limit"
fault_text stop.Settings = codes "bad settings"
fault_text (stop.Mismatch node) = codes "log mismatch at node " ++ decimal node.0
fault_text (stop.GateShut node) = codes "gate shut at node " ++ decimal node.0
fault_text (stop.LogTooLong most) = codes "too many records: a log has at most " ++ decimal most
fault_text (stop.NoQuestion line) =
    codes "line " ++ decimal line ++ codes " below `==> questions <==` asks nothing; a question of a log is explain,LINE, check,LINE,LINE.., relation,LINE,LINE, influenced,LINE, drift,NODE, claimed,LINE, event,LINE, why,LINE,LINE, tainted,LINE or first,NODE,RULE"
fault_text (stop.Records fault) = records_fault_text fault

-- the input failed: it could not be read, or has too many records, or what follows a log there asks nothing
abbrev pub IsOfInput : CommandFault → Type 0
IsOfInput (stop.Records records.Read) = ⊤
IsOfInput (stop.Records records.TooLong) = ⊤
IsOfInput (stop.LogTooLong most) = ⊤
IsOfInput (stop.NoQuestion line) = ⊤
IsOfInput _ = ⊥

-- the whole answer was written, and tells of the fault: an event is missing, the input is no log, or a log without events, or stamps in it are broken
-- or over the limit
abbrev pub IsOfAnswer : CommandFault → Type 0
IsOfAnswer stop.NoEvent = ⊤
IsOfAnswer stop.BadLog = ⊤
IsOfAnswer stop.EmptyLog = ⊤
IsOfAnswer stop.BrokenStamps = ⊤
IsOfAnswer stop.OverLimit = ⊤
IsOfAnswer _ = ⊥
