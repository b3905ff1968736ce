-- What the program did.
use Rattle.std.specs.Prelude.{◌≡◌, ◌⊎◌, ⊤, ℕ, List, [], Err, None, Ok, Option, Result, Some, false}
use Rattle.clap.specs.Kinds.{IsAmong}
use Rattle.clap.specs.Values.{kind_of}
use Rattle.clap.specs.Words.{Text, subcommand_of, takes}
use Rattle.clap.specs.declared.error.kind.ErrorKind.{ErrorKind}
use Rattle.clap.specs.declared.error.kind.ErrorKind.TheVariants.{DisplayHelp, DisplayVersion}
use Rattle.std.specs.Io.KnownBytes.{Appends}
use Rattle.hlc_stamp.specs.declared.limits.TheConstants.{MAX_CAPACITY, MAX_RECORDS}
use Rattle.hlc_seeded.specs.Storm.{storm_of}
use Rattle.hlc_trace.specs.Trace.{IsJudged}
use Rattle.hlc_text.specs.Steps.{printed_text}
use Rattle.hlc_command_line.specs.Line.{AskForMistake, AskForTurned, IsOrderFound, IsTurned, line_app, line_faults}
use Rattle.hlc_command_line.specs.declared.line_fault.LineFault.{LineFault}
use Rattle.hlc_command_line.specs.declared.line_fault.LineFault.TheVariants as fault
use Rattle.hlc_command_line.specs.declared.line_order.Order.{Order}
use Rattle.hlc_command_line.specs.declared.line_order.Order.TheVariants as order
use Rattle.hlc_command_line.specs.declared.command_fault.CommandFault.{CommandFault}
use Rattle.hlc_command_line.specs.declared.no_events.NoEvents.{NoEvents}
use Rattle.hlc_script_commands.specs.Answered.{IsScriptAnswered}
use Rattle.hlc_script_commands.specs.Drawn.{IsDrawnBut, IsDrawnWhole, IsScriptFor}
use Rattle.hlc_script_commands.specs.NoEvents.{IsNoteOn}
use Rattle.hlc_script_commands.specs.Traced.{IsScriptTraced}
use Rattle.hlc_log_commands.specs.Audited.{IsAuditPassed, IsAuditedBut, IsLogNote}
use Rattle.hlc_log_commands.specs.DrawnLog.{IsLogDrawnBut, IsLogDrawnWhole}
use Rattle.hlc_log_commands.specs.Following.{HoldFor, HoldsOf}
use Rattle.hlc_log_commands.specs.LogVectors.{HasVectors}
use Rattle.hlc_log_commands.specs.Records.{records_in}
use Rattle.hlc_log_commands.specs.Unopened.{IsUnopened}
use Rattle.hlc_script_commands.specs.Played.{IsPlayed}
use Rattle.hlc_log_commands.specs.Watched.{IsWatchNote, IsWatchPassed, IsWatchedBut}
use Rattle.hlc_cli.specs.declared.fault.Fault.{Fault}
use Rattle.hlc_cli.specs.declared.fault.Fault.TheVariants as stop

-- an error of clap is a text that was asked for: help, or the version
abbrev pub IsText : ErrorKind → Type 0
IsText kind = (kind ≡ DisplayHelp) ⊎ (kind ≡ DisplayVersion)

-- arguments give no order since they ask for such a text
abbrev pub IsTextAsked : LineFault → Type 0
IsTextAsked (fault.Line e) = IsText (kind_of e)
IsTextAsked _ = ⊥

-- the arguments ask for help, or for the version
abbrev pub AskForText : List Text → Type 0
AskForText arguments = (kind : ErrorKind) × IsText kind × IsAmong kind (line_faults arguments)

-- what the order asks for was done, in terms of what the input held and the output got, if these are known
abbrev pub IsDone : (input before after : Option (List ℕ)) → Order → Type 0
IsDone input before after (order.Run settings) = IsScriptAnswered settings input before after
IsDone input before after (order.Draw settings part) = IsDrawnWhole settings part input before after
IsDone input before after (order.Trace settings vector) = IsScriptTraced settings vector input before after
IsDone input before after order.Judge = IsJudged MAX_RECORDS input before after
IsDone input before after (order.Audit options asked json) =
    HoldFor asked.questions.items asked.questions_follow input (λ questions log. IsAuditPassed options questions (records_in json log) before after)
IsDone input before after (order.Watch options json) = IsWatchPassed options (records_in json input) before after
IsDone input before after (order.DrawLog options json) = IsLogDrawnWhole options (records_in json input) before after
IsDone input before after (order.Vectors records json) = HasVectors records (records_in json input) before after
IsDone input before after (order.Storm nodes steps seed) = Appends before after (printed_text (storm_of seed nodes steps))
IsDone input before after (order.Threads nodes steps seed limit) = IsPlayed nodes steps limit (storm_of seed nodes steps) before after

-- what the order asks for was done but for this fault, of which the answer tells
abbrev pub IsDoneBut : CommandFault → (input before after : Option (List ℕ)) → Order → Type 0
IsDoneBut fault input before after (order.Draw settings part) = IsDrawnBut fault settings part input before after
IsDoneBut fault input before after (order.Audit options asked json) =
    HoldFor asked.questions.items asked.questions_follow input (λ questions log. IsAuditedBut fault options questions (records_in json log) before after)
IsDoneBut fault input before after (order.Watch options json) = IsWatchedBut fault options (records_in json input) before after
IsDoneBut fault input before after (order.DrawLog options json) = IsLogDrawnBut fault options (records_in json input) before after
IsDoneBut fault input before after (order.Vectors records json) = IsUnopened MAX_CAPACITY fault records (records_in json input) before after
IsDoneBut fault input before after _ = ⊥

-- this is the note on an order that was done: the one on the script that was drawn or traced, or on the log that was audited or watched, and none on
-- what another order asks for
abbrev pub IsNoteFor : (input : Option (List ℕ)) → Option NoEvents → Order → Type 0
IsNoteFor input note (order.Draw settings part) = IsNoteOn settings input note
IsNoteFor input note (order.Trace settings vector) = IsNoteOn settings input note
IsNoteFor input note (order.Audit options asked json) = HoldsOf asked.questions_follow input (λ log. IsLogNote options (records_in json log) note)
IsNoteFor input note (order.Watch options json) = IsWatchNote options (records_in json input) note
IsNoteFor input note _ = note ≡ None

-- what has no note, at its end
abbrev pub unnoted : {F : Type 0} → Result (Unit {0}) F → Result (Option NoEvents) F
unnoted (Ok done) = Ok None
unnoted (Err fault) = Err fault

-- an order that reads all of its input before it writes: for a picture, for the log of a script, for verdicts, for the report on a log, or for its vectors
abbrev pub ReadsFirst : Order → Type 0
ReadsFirst (order.Draw settings part) = ⊤
ReadsFirst (order.Trace settings vector) = ⊤
ReadsFirst order.Judge = ⊤
ReadsFirst (order.Audit options asked json) = ⊤
ReadsFirst (order.DrawLog options json) = ⊤
ReadsFirst (order.Vectors records json) = ⊤
ReadsFirst _ = ⊥

-- an order may write of this input: a picture or a log of a script is begun only if the script leaves a history
abbrev pub MayWrite : (input : Option (List ℕ)) → Order → Type 0
MayWrite input (order.Draw settings part) = IsScriptFor settings input
MayWrite input (order.Trace settings vector) = IsScriptFor settings input
MayWrite input _ = ⊤

-- clap finds nothing wrong with the arguments, and they give an order of which this holds
abbrev pub GiveOrder : List Text → (Order → Type 0) → Type 0
GiveOrder arguments Holds = (line_faults arguments ≡ []) × ((o : Order) × IsOrderFound (subcommand_of line_app arguments) o × (¬ IsTurned o) × Holds o)

-- the arguments were performed: they ask for a text, or for an order, which was done
abbrev pub ArePerformed : List Text → (input before after : Option (List ℕ)) → Type 0
ArePerformed arguments input before after = AskForText arguments ⊎ GiveOrder arguments (IsDone input before after)

-- this is the note on the arguments that were performed
abbrev pub IsNoteAt : List Text → (input : Option (List ℕ)) → Option NoEvents → Type 0
IsNoteAt arguments input note = (AskForText arguments × (note ≡ None)) ⊎ GiveOrder arguments (IsNoteFor input note)

-- they have a note
abbrev pub HaveNote : List Text → (input : Option (List ℕ)) → Type 0
HaveNote arguments input = (note : NoEvents) × IsNoteAt arguments input (Some note)

-- the arguments ask for an order, which was done but for this fault
abbrev pub ArePerformedBut : Fault → List Text → (input before after : Option (List ℕ)) → Type 0
ArePerformedBut (stop.Command fault) arguments input before after = GiveOrder arguments (IsDoneBut fault input before after)
ArePerformedBut _ arguments input before after = ⊥

-- something may have been written for the arguments: they ask for a text, or for an order that may write of the input
abbrev pub MayHaveWritten : List Text → (input : Option (List ℕ)) → Type 0
MayHaveWritten arguments input = AskForText arguments ⊎ GiveOrder arguments (MayWrite input)

-- clap finds a mistake in the arguments, and does not take them
abbrev pub AreRefused : List Text → Type 0
AreRefused arguments = (takes line_app arguments ≡ false) × ((kind : ErrorKind) × (¬ IsText kind) × IsAmong kind (line_faults arguments))

-- clap finds nothing wrong with the arguments, but no order says what they ask for: a number has a sign, or a log is not audited or drawn so
abbrev pub AskForNoOrder : List Text → Type 0
AskForNoOrder arguments = (f : LineFault) × AskForMistake arguments f

-- the arguments are mistaken: clap refuses them, or they ask for events that end before they begin, or for what no order says
abbrev pub AreMistaken : List Text → Type 0
AreMistaken arguments = AreRefused arguments ⊎ (AskForTurned arguments ⊎ AskForNoOrder arguments)

-- a fault is of the command line only if the arguments are mistaken
abbrev pub IsStop : List Text → Fault → Type 0
IsStop arguments (stop.Line (fault.Line e)) = AreRefused arguments
IsStop arguments (stop.Line fault.Range) = AskForTurned arguments
IsStop arguments (stop.Line fault.Forms) = AskForMistake arguments fault.Forms
IsStop arguments (stop.Line fault.Unsent) = AskForMistake arguments fault.Unsent
IsStop arguments (stop.Line fault.Receives) = AskForMistake arguments fault.Receives
IsStop arguments (stop.Line fault.Question) = AskForMistake arguments fault.Question
IsStop arguments (stop.Line fault.Output) = AskForMistake arguments fault.Output
IsStop arguments (stop.Line (fault.Sign option)) = AskForMistake arguments (fault.Sign option)
IsStop arguments (stop.Line (fault.Part m)) = AskForMistake arguments (fault.Part m)
IsStop arguments (stop.Line (fault.Records m)) = AskForMistake arguments (fault.Records m)
IsStop arguments (stop.Line fault.Memory) = ⊤
IsStop arguments stop.Encoding = ⊥
IsStop arguments (stop.Command fault) = ⊤
