-- What was drawn of a log.
use Rattle.std.specs.Prelude.{⊤, ◌≡◌, ◌⊎◌, ℕ, List, Option, None, Some}
use Rattle.std.specs.Io.KnownBytes.{Appends}
use Rattle.hlc_stamp.specs.declared.limits.TheConstants.{MAX_CAPACITY}
use Rattle.hlc_stamp.specs.declared.id.EventId.{EventId}
use Rattle.hlc_csv.specs.declared.records_fault.RecordsFault.TheVariants as records
use Rattle.hlc_diagram.specs.Picture.{picture_text}
use Rattle.hlc_diagram.specs.declared.view.View.{View}
use Rattle.hlc_open_log.specs.Opened.{IsOpened, OpenedLog}
use Rattle.hlc_log_picture.specs.Drawn.{DrawnLog, IsDrawnOf, drawn_log, drawn_log_chain}
use Rattle.hlc_log_picture.specs.Viewed.{HasNoRow, IsRowOn, IsViewAround, IsViewBetween}
use Rattle.hlc_command_line.specs.declared.line_order.DrawLogOptions.{DrawLogOptions}
use Rattle.hlc_command_line.specs.declared.command_fault.CommandFault.{CommandFault}
use Rattle.hlc_command_line.specs.declared.command_fault.CommandFault.TheVariants as stop
use Rattle.hlc_log_commands.specs.PartLines.{part_in}
use Rattle.hlc_log_commands.specs.Unopened.{IsToldBad}
use Rattle.hlc_command_line.specs.DrawnPart.{event_of_rows}
use Rattle.hlc_command_line.specs.declared.drawn_part.DrawnPart.{DrawnPart}
use Rattle.hlc_command_line.specs.declared.drawn_part.DrawnPart.TheVariants.{Chain, Rows}
use Rattle.hlc_command_line.specs.declared.drawn_part.DrawnRows.{DrawnRows}
use Rattle.hlc_command_line.specs.declared.drawn_part.DrawnRows.TheVariants.{Around, Between}

-- a view has the rows of a log that are to be drawn, and explains the event of a line
abbrev pub IsViewOf : DrawnLog → DrawnRows ℕ → (explained : Option ℕ) → View → Type 0
IsViewOf drawn (Between first last) explained view = IsViewBetween drawn first last explained view
IsViewOf drawn (Around line rows) explained view = IsViewAround drawn line rows explained view

-- a line is named, and the record of no event begins there
abbrev pub IsAbsent : DrawnLog → (line : Option ℕ) → Type 0
IsAbsent drawn None = ⊥
IsAbsent drawn (Some line) = HasNoRow drawn line

-- the event to explain is named and isn't there, or that of the rows
abbrev pub LacksNamed : DrawnLog → DrawnPart ℕ → Type 0
LacksNamed drawn (Rows rows explained) = IsAbsent drawn explained ⊎ IsAbsent drawn (event_of_rows rows)
LacksNamed drawn (Chain line) = HasNoRow drawn line

-- the output got the picture of some rows of a log, or that of the chain of the event of a line alone
abbrev pub HasPicture : DrawnLog → DrawnPart ℕ → (before after : Option (List ℕ)) → Type 0
HasPicture drawn (Rows rows explained) before after =
    (view : View) × IsViewOf drawn rows explained view × Appends before after (picture_text (drawn_log drawn view))
HasPicture drawn (Chain line) before after =
    (row : EventId) × IsRowOn drawn line row.0 × Appends before after (picture_text (drawn_log_chain drawn row))

-- and the log has the events that are named
abbrev pub IsPartDrawn : DrawnLog → DrawnPart ℕ → (before after : Option (List ℕ)) → Type 0
IsPartDrawn drawn part before after = HasPicture drawn part before after × (¬ LacksNamed drawn part)

-- a part of an opened log is drawn
pub record IsOpenedDrawn (opened : OpenedLog) (part : DrawnPart ℕ) (before after : Option (List ℕ)) : Type 0 where
  pub drawn : DrawnLog
  pub is_drawn : IsDrawnOf opened drawn
  pub picture : IsPartDrawn drawn part before after

-- an event is named that the log doesn't have, and the output got nothing
pub record IsOpenedLacking (opened : OpenedLog) (part : DrawnPart ℕ) (before after : Option (List ℕ)) : Type 0 where
  pub drawn : DrawnLog
  pub is_drawn : IsDrawnOf opened drawn
  pub absent : LacksNamed drawn part
  pub nothing : after ≡ before

-- a part of an opened log wasn't drawn for this fault: an event is named that it doesn't have, or else the output or the memory failed
abbrev pub IsDrawingStopped : OpenedLog → DrawnPart ℕ → CommandFault → (before after : Option (List ℕ)) → Type 0
IsDrawingStopped opened part stop.NoEvent before after = IsOpenedLacking opened part before after
IsDrawingStopped opened part (stop.Records records.Write) before after = ⊤
IsDrawingStopped opened part (stop.Records records.Memory) before after = ⊤
IsDrawingStopped opened part _ before after = ⊥

-- the input is a log of at most so many records, and it was drawn
abbrev pub IsLogDrawnUpTo : (most : ℕ) → DrawLogOptions → (input before after : Option (List ℕ)) → Type 0
IsLogDrawnUpTo most options input before after =
    (opened : OpenedLog) × IsOpened options.records most input opened × IsOpenedDrawn opened (part_in opened.files options.part) before after

-- the input is a log, and it was drawn
abbrev pub IsLogDrawnWhole : DrawLogOptions → (input before after : Option (List ℕ)) → Type 0
IsLogDrawnWhole options input before after = IsLogDrawnUpTo MAX_CAPACITY options input before after

-- the input is a log, and wasn't drawn since it lacks an event that is named
abbrev pub IsLogLacking : (most : ℕ) → DrawLogOptions → (input before after : Option (List ℕ)) → Type 0
IsLogLacking most options input before after =
    (opened : OpenedLog) × IsOpened options.records most input opened × IsOpenedLacking opened (part_in opened.files options.part) before after

-- the input is no log, and the output got the row by which an audit says why
abbrev pub IsNotDrawn : (most : ℕ) → DrawLogOptions → (input before after : Option (List ℕ)) → Type 0
IsNotDrawn most options input before after = IsToldBad most options.records input before after

-- the log of at most so many records wasn't drawn for this fault, of which the status or the answer tells
abbrev pub IsLogDrawnUpToBut : (most : ℕ) → CommandFault → DrawLogOptions → (input before after : Option (List ℕ)) → Type 0
IsLogDrawnUpToBut most stop.NoEvent options input before after = IsLogLacking most options input before after
IsLogDrawnUpToBut most stop.BadLog options input before after = IsNotDrawn most options input before after
IsLogDrawnUpToBut most _ options input before after = ⊥

abbrev pub IsLogDrawnBut : CommandFault → DrawLogOptions → (input before after : Option (List ℕ)) → Type 0
IsLogDrawnBut fault options input before after = IsLogDrawnUpToBut MAX_CAPACITY fault options input before after
