-- Notes at the end of what was performed.
use Rattle.std.proofs.Common.{◌≡◌, ◌⊎◌, ℕ, Err, List, None, Ok, Option, Result, Some, arith, inl, inr, refl}
use Rattle.std.specs.Prelude.{IfErr, IfOk, OnOk}
use Rattle.clap.specs.Words.{Text}
use Rattle.hlc_command_line.specs.declared.command_fault.CommandFault.{CommandFault}
use Rattle.hlc_command_line.specs.declared.command_fault.CommandFault.TheVariants as command
use Rattle.hlc_command_line.specs.declared.no_events.NoEvents.{NoEvents}
use Rattle.hlc_command_line.specs.declared.line_fault.LineFault.TheVariants as line
use Rattle.hlc_cli.specs.Ended.{IsEnd}
use Rattle.hlc_cli.specs.Fault.{IsOfAnswer, command_status, status_at_end, status_of}
use Rattle.hlc_cli.specs.Program.{ArePerformed, ArePerformedBut, HaveNote, IsNoteAt, IsStop, unnoted}
use Rattle.hlc_cli.specs.declared.fault.Fault.{Fault}
use Rattle.hlc_cli.specs.declared.fault.Fault.TheVariants as stop

-- what has no note ends as it did
pub ok_unnoted : {F : Type 0} (ended : Result (Unit {0}) F) (r : Result (Option NoEvents) F) (P : Type 0)
    → r ≡ unnoted ended → OnOk ended P → OnOk r P
ok_unnoted (Ok v) r P is holds = rw is holds
ok_unnoted (Err f) r P is holds = rw is tt

pub err_unnoted : {F : Type 0} (ended : Result (Unit {0}) F) (r : Result (Option NoEvents) F) (P Q : F → Type 0)
    → ((f : F) → P f → Q f) → r ≡ unnoted ended → IfErr ended P → IfErr r Q
err_unnoted (Ok v) r P Q step is holds = rw is tt
err_unnoted (Err f) r P Q step is holds = rw is (step f holds)

pub has_no_note : {F : Type 0} (ended : Result (Unit {0}) F) (r : Result (Option NoEvents) F)
    → r ≡ unnoted ended → IfOk r (λ note. note ≡ None)
has_no_note (Ok v) r is = rw is refl
has_no_note (Err f) r is = rw is tt

-- no command that stopped has status 0
command_has_status : (f : CommandFault) → command_status f ≡ 0 → ⊥
command_has_status command.BrokenStamps zero = omega arith
command_has_status command.OverLimit zero = omega arith
command_has_status command.BadLog zero = omega arith
command_has_status command.EmptyLog zero = omega arith
command_has_status (command.NoQuestion line) zero = omega arith
command_has_status command.NoEvent zero = omega arith
command_has_status command.Settings zero = omega arith
command_has_status (command.Mismatch node) zero = omega arith
command_has_status (command.GateShut node) zero = omega arith
command_has_status (command.LogTooLong most) zero = omega arith
command_has_status (command.Records fault) zero = omega arith

-- no fault has status 0
has_status : (f : Fault) → status_of f ≡ 0 → ⊥
has_status (stop.Line (line.Line e)) zero = omega arith
has_status (stop.Line line.Range) zero = omega arith
has_status (stop.Line line.Forms) zero = omega arith
has_status (stop.Line line.Unsent) zero = omega arith
has_status (stop.Line line.Receives) zero = omega arith
has_status (stop.Line line.Output) zero = omega arith
has_status (stop.Line line.Question) zero = omega arith
has_status (stop.Line (line.Sign option)) zero = omega arith
has_status (stop.Line (line.Part m)) zero = omega arith
has_status (stop.Line (line.Records m)) zero = omega arith
has_status (stop.Line line.Memory) zero = omega arith
has_status stop.Encoding zero = omega arith
has_status (stop.Command fault) zero = command_has_status fault zero

-- what is promised of a performance holds of its end
module _ (arguments : List Text) (input before after : Option (List ℕ)) where
  pub is_end : (r : Result (Option NoEvents) Fault) → OnOk r (ArePerformed arguments input before after)
      → IfOk r (IsNoteAt arguments input) → IfErr r (IsStop arguments)
      → IfErr r (λ fault. IsOfAnswer fault → ArePerformedBut fault arguments input before after) → IsEnd arguments input before after r
  is_end (Ok found) done noted stopped told = (done, noted)
  is_end (Err fault) done noted stopped told = (stopped, told)

-- what ends with status 0 is quiet, or has a note
pub quiet_end : (arguments : List Text) (input : Option (List ℕ)) (r : Result (Option NoEvents) Fault) (Quiet : Type 0)
    → status_at_end r ≡ 0 → IfOk r (IsNoteAt arguments input) → (r ≡ Ok None → Quiet) → Quiet ⊎ HaveNote arguments input
quiet_end arguments input (Ok None) Quiet zero noted quiet = inl (quiet refl)
quiet_end arguments input (Ok (Some found)) Quiet zero noted quiet = inr (found, noted)
quiet_end arguments input (Err fault) Quiet zero noted quiet = absurd (has_status fault zero)
