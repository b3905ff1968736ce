-- What is noted of a script that leaves no event.
use Rattle.std.specs.Prelude.{◌≡◌, ◌==◌, ◌&&◌, ℕ, List, None, Option, Some, if◌then◌else◌, length, nat_lt}
use Rattle.hlc_stamp.specs.declared.settings.Settings.{Settings}
use Rattle.hlc_arena.specs.History.{History}
use Rattle.hlc_command_line.specs.declared.no_events.NoEvents.{NoEvents}
use Rattle.hlc_command_line.specs.declared.no_events.NoEvents.TheVariants.{Script}
use Rattle.hlc_script_commands.specs.Drawn.{LeavesHistory}

-- the note on a script with so many records and events: it is there if there are records and no event
abbrev pub note_of : (records events : ℕ) → Option NoEvents
note_of records events = if nat_lt 0 records && events == 0 then Some (Script records) else None

-- the input is a script for these settings, and this is the note on its records and on the events that it leaves
abbrev pub IsNoteOn : Settings → (input : Option (List ℕ)) → Option NoEvents → Type 0
IsNoteOn settings input note =
    (history : History) × (script : LeavesHistory settings input history)
    × (note ≡ note_of (length script.records) (length history.events))
