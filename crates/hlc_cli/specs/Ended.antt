-- How it ended that arguments were performed.
use Rattle.std.specs.Prelude.{◌≡◌, ℕ, Err, List, Ok, Option, Result}
use Rattle.std.specs.Bool.{OnTrue}
use Rattle.clap.specs.Words.{Text}
use Rattle.hlc_command_line.specs.declared.no_events.NoEvents.{NoEvents}
use Rattle.hlc_cli.specs.Fault.{IsOfAnswer, IsToldOf, line_at_end, status_at_end}
use Rattle.hlc_cli.specs.Program.{ArePerformed, ArePerformedBut, IsNoteAt, IsStop}
use Rattle.hlc_cli.specs.declared.ended.Ended.{Ended}
use Rattle.hlc_cli.specs.declared.fault.Fault.{Fault}

-- what is said of an end holds: the arguments were performed, and this is their note, if they have one; or there is a fault that may stop
-- them, and if the answer tells of it, they were performed but for it
abbrev pub IsEnd : List Text → (input before after : Option (List ℕ)) → Result (Option NoEvents) Fault → Type 0
IsEnd arguments input before after (Ok note) = ArePerformed arguments input before after × IsNoteAt arguments input note
IsEnd arguments input before after (Err fault) =
    IsStop arguments fault × (IsOfAnswer fault → ArePerformedBut fault arguments input before after)

-- there is an end of which that holds, whose status is given, and of which the errors were told if they got all that there is to tell
pub record Ends (arguments : List Text) (input before after errors_before errors_after : Option (List ℕ)) (ended : Ended) : Type 0 where
  pub end : Result (Option NoEvents) Fault
  pub is_end : IsEnd arguments input before after end
  pub status : ended.status ≡ status_at_end end
  pub line : OnTrue ended.told (IsToldOf (line_at_end end) errors_before errors_after)
