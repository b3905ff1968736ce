-- What was drawn.
use Rattle.std.specs.Prelude.{◌≡◌, ◌≤◌, ◌⊎◌, ℕ, List, None, Option, Some, if◌then◌else◌, length, map, nat_lt}
use Rattle.std.specs.Io.KnownBytes.{Appends}
use Rattle.hlc_stamp.specs.Order.{Pair}
use Rattle.hlc_stamp.specs.declared.id.EventId.{EventId}
use Rattle.hlc_stamp.specs.declared.limits.TheConstants.{MAX_RECORDS}
use Rattle.hlc_stamp.specs.declared.settings.Settings.{Settings}
use Rattle.hlc_arena.specs.History.{History, stamps_of}
use Rattle.hlc_arena.specs.ClockRule.{HasLeastStamps}
use Rattle.hlc_diagram.specs.Chosen.{IsMissing}
use Rattle.hlc_picture.specs.Drawn.{drawn_chain, drawn_with}
use Rattle.hlc_diagram.specs.Picture.{picture_text}
use Rattle.hlc_diagram.specs.View.{view_around, view_between}
use Rattle.hlc_diagram.specs.declared.undelivered.Undelivered.{Undelivered}
use Rattle.hlc_diagram.specs.declared.view.View.{View}
use Rattle.hlc_csv.specs.Records.{AreAllOf, IsOnly}
use Rattle.hlc_csv.specs.Rows.{Fields}
use Rattle.hlc_text.specs.Script.{first_state, state_after}
use Rattle.hlc_text.specs.Undelivered.{undelivered_in}
use Rattle.hlc_text.specs.declared.undelivered.Undelivered.{Undelivered as LeftUndelivered}
use Rattle.hlc_command_line.specs.DrawnPart.{event_of_rows}
use Rattle.hlc_command_line.specs.declared.drawn_part.DrawnPart.{DrawnPart}
use Rattle.hlc_command_line.specs.declared.drawn_part.DrawnPart.TheVariants.{Chain, Rows}
use Rattle.hlc_command_line.specs.declared.drawn_part.DrawnRows.{DrawnRows}
use Rattle.hlc_command_line.specs.declared.drawn_part.DrawnRows.TheVariants.{Around, Between}
use Rattle.hlc_command_line.specs.declared.command_fault.CommandFault.{CommandFault}
use Rattle.hlc_command_line.specs.declared.command_fault.CommandFault.TheVariants as stop

-- the history that records leave, given the stamps of the events by their places
abbrev pub history_after : List Pair → Settings → List Fields → History
history_after stamps settings records = (state_after stamps (first_state settings) records).history

-- a script leaves a history: the bytes are its records and no others, at most as many as are taken, and the stamps are the least
pub record LeavesHistory (settings : Settings) (bytes : Option (List ℕ)) (history : History) : Type 0 where
  pub records : List Fields
  pub stamps : List Pair
  pub all : AreAllOf bytes records
  pub only : IsOnly bytes records
  pub within : length records ≤ MAX_RECORDS
  pub left : history ≡ history_after stamps settings records
  pub own : stamps_of history.events ≡ stamps
  pub least : HasLeastStamps history.events

-- the input is a script for these settings: it leaves a history
abbrev pub IsScriptFor : Settings → (input : Option (List ℕ)) → Type 0
IsScriptFor settings input = (history : History) × LeavesHistory settings input history

-- the messages that a script leaves undelivered, as a picture shows them
abbrev pub pictured_message : LeftUndelivered → Undelivered
pictured_message m = record { send = m.send; to = m.to; before = m.before }

abbrev pub undelivered_by_script : {settings : Settings} {bytes : Option (List ℕ)} {history : History} → LeavesHistory settings bytes history
    → List Undelivered
undelivered_by_script {settings = settings} script = map pictured_message (undelivered_in script.stamps (first_state settings) script.records)

-- a script leaves a history, and these messages undelivered
abbrev pub LeavesUndelivered : Settings → (bytes : Option (List ℕ)) → History → List Undelivered → Type 0
LeavesUndelivered settings bytes history messages = (script : LeavesHistory settings bytes history) × (messages ≡ undelivered_by_script script)

-- of so many events these rows are seen, and the chain of this event: no row if those about an event are to be drawn that isn't there
abbrev pub view_of : (count : ℕ) → DrawnRows EventId → (explained : Option EventId) → View
view_of count (Between first last) explained = view_between first last explained
view_of count (Around event rows) explained =
    if nat_lt event.0 count then view_around event rows count explained else view_between (Some event) None explained

-- an event is named that a history doesn't have: the one to explain, or that of the rows
abbrev pub LacksNamed : History → DrawnPart EventId → Type 0
LacksNamed history (Rows rows explained) = IsMissing history.events explained ⊎ IsMissing history.events (event_of_rows rows)
LacksNamed history (Chain event) = IsMissing history.events (Some event)

-- the picture of a part of a history: of some rows, in which these messages are crossed out, or of the chain of an event and of nothing else
abbrev pub part_text : History → (undelivered : List Undelivered) → DrawnPart EventId → List ℕ
part_text history undelivered (Rows rows explained) = picture_text (drawn_with history (view_of (length history.events) rows explained) undelivered)
part_text history undelivered (Chain event) = picture_text (drawn_chain history event)

-- the input is a script, and the output got the picture of a part of the history that it leaves, with the messages that it leaves undelivered
pub record IsScriptDrawn (settings : Settings) (part : DrawnPart EventId) (input before after : Option (List ℕ)) : Type 0 where
  pub history : History
  pub script : LeavesHistory settings input history
  pub picture : Appends before after (part_text history (undelivered_by_script script) part)

-- the history has the events that are named
abbrev pub IsDrawnWhole : Settings → DrawnPart EventId → (input before after : Option (List ℕ)) → Type 0
IsDrawnWhole settings part input before after = (d : IsScriptDrawn settings part input before after) × (¬ LacksNamed d.history part)

-- it lacks one of them
abbrev pub IsDrawnWithout : Settings → DrawnPart EventId → (input before after : Option (List ℕ)) → Type 0
IsDrawnWithout settings part input before after = (d : IsScriptDrawn settings part input before after) × LacksNamed d.history part

-- the script was drawn but for this fault, of which the picture tells
abbrev pub IsDrawnBut : CommandFault → Settings → DrawnPart EventId → (input before after : Option (List ℕ)) → Type 0
IsDrawnBut stop.NoEvent settings part input before after = IsDrawnWithout settings part input before after
IsDrawnBut _ settings part input before after = ⊥
