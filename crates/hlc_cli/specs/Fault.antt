-- What stops the program.
use Rattle.std.specs.Prelude.{ℕ, ◌++◌, [], Err, IfSome, List, None, Ok, Option, Result, Some, codes, option_map}
use Rattle.std.specs.Io.KnownBytes.{Appends}
use Rattle.hlc_command_line.specs.CommandFault.{IsOfAnswer as IsAnswered, IsOfInput as IsUnread, fault_text}
use Rattle.hlc_command_line.specs.declared.command_fault.CommandFault.{CommandFault}
use Rattle.hlc_command_line.specs.NoEvents.{note_text}
use Rattle.hlc_command_line.specs.declared.command_fault.CommandFault.TheVariants as command
use Rattle.hlc_command_line.specs.declared.no_events.NoEvents.{NoEvents}
use Rattle.hlc_command_line.specs.Fault.{line_fault_text}
use Rattle.hlc_command_line.specs.declared.line_fault.LineFault.TheVariants as line
use Rattle.hlc_cli.specs.declared.fault.Fault.{Fault}
use Rattle.hlc_cli.specs.declared.fault.Fault.TheVariants as stop

-- the exit status of a command that stopped: 3 if stamps of a log are broken or over the limit, 4 if the input is no log, or none with events, or a line
-- that follows a log in it asks nothing, 1 for any other fault
abbrev pub command_status : CommandFault → ℕ
command_status command.BrokenStamps = 3
command_status command.OverLimit = 3
command_status command.BadLog = 4
command_status command.EmptyLog = 4
command_status (command.NoQuestion line) = 4
command_status command.NoEvent = 1
command_status command.Settings = 1
command_status (command.Mismatch node) = 1
command_status (command.GateShut node) = 1
command_status (command.LogTooLong most) = 1
command_status (command.Records fault) = 1

-- the exit status of a fault: 2 if the command line is at fault
abbrev pub status_of : Fault → ℕ
status_of (stop.Line line.Memory) = 1
status_of (stop.Line fault) = 2
status_of stop.Encoding = 2
status_of (stop.Command fault) = command_status fault

-- what a fault says; of arguments that clap refuses, the words are clap's
abbrev pub text_of : Fault → Option (List ℕ)
text_of stop.Encoding = Some (codes "the arguments are not UTF-8")
text_of (stop.Line fault) = line_fault_text fault
text_of (stop.Command fault) = Some (fault_text fault)

-- what is told of a fault, if that is known: of arguments that give no order it may be clap's text, or the range of an option
abbrev pub told_text : Fault → Option (List ℕ)
told_text stop.Encoding = text_of stop.Encoding
told_text (stop.Line fault) = None
told_text (stop.Command fault) = text_of (stop.Command fault)

-- a line of the program's own with this text, if that is known
abbrev pub line_with : Option (List ℕ) → Option (List ℕ)
line_with text = option_map (λ t. codes "hlc: " ++ t ++ codes "\n") text

-- the line that reports a fault
abbrev pub line_of : Fault → Option (List ℕ)
line_of fault = line_with (told_text fault)

-- the line of a note, if there is one
abbrev pub note_line : Option NoEvents → List ℕ
note_line None = []
note_line (Some note) = codes "hlc: " ++ note_text note ++ codes "\n"

-- the status and the line at the end of a performance, which has a fault, or may have a note
abbrev pub status_at_end : {T : Type 0} → Result T Fault → ℕ
status_at_end (Ok v) = 0
status_at_end (Err fault) = status_of fault

abbrev pub line_at_end : Result (Option NoEvents) Fault → Option (List ℕ)
line_at_end (Ok note) = Some (note_line note)
line_at_end (Err fault) = line_of fault

-- an output got this line, if it is known
abbrev pub IsToldOf : (line : Option (List ℕ)) → (before after : Option (List ℕ)) → Type 0
IsToldOf line before after = IfSome line (Appends before after)

-- the input failed: it could not be read, or has too many records, or what follows a log there asks nothing
abbrev pub IsOfInput : Fault → Type 0
IsOfInput (stop.Command fault) = IsUnread fault
IsOfInput _ = ⊥

-- the whole answer was written, and tells of the fault: an event is missing, the input is no log, or a log without events, or stamps in it are broken
-- or over the limit
abbrev pub IsOfAnswer : Fault → Type 0
IsOfAnswer (stop.Command fault) = IsAnswered fault
IsOfAnswer _ = ⊥
