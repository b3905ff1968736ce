-- What is noted of commands that had no event to tell of.
use Rattle.std.specs.Prelude.{◌++◌, ℕ, List, codes, decimal}
use Rattle.hlc_command_line.specs.declared.no_events.NoEvents.{NoEvents}
use Rattle.hlc_command_line.specs.declared.no_events.NoEvents.TheVariants as no_events

-- what a note says
abbrev pub note_text : NoEvents → List ℕ
note_text (no_events.Script records) = codes "none of " ++ decimal records ++ codes " records is an event"
note_text no_events.Log = codes "no events"
