-- The lines by which options name events of a log.
use Rattle.std.specs.Prelude.{◌≡◌, ◌==◌, ◌⊎◌, ⊤, List, Option, None, Some, codes, if◌then◌else◌}
use Rattle.std.specs.Borrow.{Bor}
use Rattle.clap.specs.Words.{Row, Text, first_of}
use Rattle.hlc_log_text.specs.Question.{location_of_field}
use Rattle.hlc_log_text.specs.declared.location.Location.{Location}
use Rattle.hlc_command_line.specs.declared.drawn_part.DrawnPart.{DrawnPart}
use Rattle.hlc_command_line.specs.declared.drawn_part.DrawnPart.TheVariants.{Chain, Rows}
use Rattle.hlc_command_line.specs.declared.drawn_part.DrawnRows.{DrawnRows}
use Rattle.hlc_command_line.specs.declared.drawn_part.DrawnRows.TheVariants.{Around, Between}
use Rattle.hlc_command_line.specs.declared.line_fault.LineFault.{LineFault}
use Rattle.hlc_command_line.specs.declared.line_fault.LineFault.TheVariants as fault
use Rattle.hlc_command_line.specs.declared.line_fault.PartMistake.TheVariants as part
use Rattle.hlc_command_line.specs.declared.line_order.LogLine.{LogLine}
use Rattle.hlc_command_line.specs.declared.line_order.LogLine.TheVariants.{Counted, Located}

-- the options of the lines of the event to explain, of the first and the last one, and of one about which rows are drawn
abbrev pub explained_line : Text
explained_line = codes "explain"

abbrev pub first_line : Text
first_line = codes "from"

abbrev pub last_line : Text
last_line = codes "to"

abbrev pub around_line : Text
around_line = codes "around"

-- this is one of these options
abbrev pub IsLineOption : Text → Type 0
IsLineOption name = (name ≡ explained_line) ⊎ ((name ≡ first_line) ⊎ ((name ≡ last_line) ⊎ (name ≡ around_line)))

-- a location, unless its line is 0
abbrev pub from_one : Option Location → Option Location
from_one None = None
from_one (Some location) = if location.line == 0 then None else Some location

-- the location that a text tells as a field of a question does, with a line from 1 on
abbrev pub line_told : Text → Option Location
line_told text = from_one (location_of_field text)

-- a text tells a line by its location
abbrev pub TellsLine : Text → LogLine → Type 0
TellsLine text (Located location) = line_told text ≡ Some location
TellsLine text (Counted number) = ⊥

-- so does one that may be left out, and those that name the events of some rows, or of what is drawn
abbrev pub TellsOptional : Option (Bor Text) → Option LogLine → Type 0
TellsOptional None None = ⊤
TellsOptional (Some text) (Some line) = TellsLine text.now line
TellsOptional _ _ = ⊥

abbrev pub TellRows : DrawnRows (Bor Text) → DrawnRows LogLine → Type 0
TellRows (Between first last) (Between from to) = TellsOptional first from × TellsOptional last to
TellRows (Around text number) (Around line rows) = TellsLine text.now line × (rows ≡ number)
TellRows _ _ = ⊥

abbrev pub TellPart : DrawnPart (Bor Text) → DrawnPart LogLine → Type 0
TellPart (Rows texts explained) (Rows rows line) = TellRows texts rows × TellsOptional explained line
TellPart (Chain text) (Chain line) = TellsLine text.now line
TellPart _ _ = ⊥

-- the option of this name is given a text that tells no line, which may be this one
abbrev pub TellsNone : Option (Bor Text) → (own name : Text) → Type 0
TellsNone given own name = (text : Bor Text) × (given ≡ Some text) × (line_told text.now ≡ None) × (name ≡ own)

-- so is it of one that names an event of some rows, or of what is drawn
abbrev pub TellsNoRows : DrawnRows (Bor Text) → (name : Text) → Type 0
TellsNoRows (Between first last) name = TellsNone first first_line name ⊎ TellsNone last last_line name
TellsNoRows (Around text number) name = TellsNone (Some text) around_line name

abbrev pub TellsNoPart : DrawnPart (Bor Text) → (name : Text) → Type 0
TellsNoPart (Rows texts explained) name = TellsNoRows texts name ⊎ TellsNone explained explained_line name
TellsNoPart (Chain text) name = TellsNone (Some text) explained_line name

-- the fault is that the option of some name tells no line so, or that memory was refused
abbrev pub IsUntold : ((name : Text) → Type 0) → LineFault → Type 0
IsUntold TellsNoLine (fault.Part (part.NoLine option)) = TellsNoLine option.now
IsUntold TellsNoLine fault.Memory = ⊤
IsUntold TellsNoLine _ = ⊥

-- the option of this name is given a text that tells no line
abbrev pub TellsNoLine : List Row → (name : Text) → Type 0
TellsNoLine rows name = (text : Text) × (first_of name rows ≡ Some text) × (line_told text ≡ None)
