-- What of a history or a log is drawn, whatever names its events.
use Rattle.std.specs.Prelude.{Option, Some}
use Rattle.hlc_command_line.specs.declared.drawn_part.DrawnRows.{DrawnRows}
use Rattle.hlc_command_line.specs.declared.drawn_part.DrawnRows.TheVariants.{Around, Between}

-- the event at which rows begin, or about which they stand, if one is named
abbrev pub event_of_rows : {E : Type 0} → DrawnRows E → Option E
event_of_rows (Between first last) = first
event_of_rows (Around event rows) = Some event
