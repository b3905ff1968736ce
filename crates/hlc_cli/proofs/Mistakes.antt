-- What the arguments ask for, or are mistaken in, if they give no order.
use Rattle.std.proofs.Common.{◌≡◌, ◌≤◌, ◌∙◌, ℕ, List, inl, inr, arith, sym}
use Rattle.std.specs.Prelude.{Err, IfErr, Ok, Result}
use Rattle.clap.specs.Values.{kind_of}
use Rattle.clap.specs.Words.{Text}
use Rattle.hlc_command_line.specs.declared.command_fault.CommandFault.{CommandFault}
use Rattle.hlc_command_line.specs.declared.command_fault.CommandFault.TheVariants as command
use Rattle.hlc_command_line.specs.Line.{IsRefusal}
use Rattle.hlc_command_line.specs.declared.line_fault.LineFault.{LineFault}
use Rattle.hlc_command_line.specs.declared.line_fault.LineFault.TheVariants as line
use Rattle.hlc_cli.specs.Fault.{command_status, status_at_end, status_of}
use Rattle.hlc_cli.specs.Program.{AreMistaken, AskForText, IsStop, IsTextAsked}
use Rattle.hlc_cli.specs.declared.fault.Fault.{Fault}
use Rattle.hlc_cli.specs.declared.fault.Fault.TheVariants as stop

-- no command that stopped has status 2
pub not_two : (f : CommandFault) → ¬ (command_status f ≡ 2)
not_two command.BrokenStamps is = absurd (omega arith)
not_two command.OverLimit is = absurd (omega arith)
not_two command.BadLog is = absurd (omega arith)
not_two command.EmptyLog is = absurd (omega arith)
not_two (command.NoQuestion line) is = absurd (omega arith)
not_two command.NoEvent is = absurd (omega arith)
not_two command.Settings is = absurd (omega arith)
not_two (command.Mismatch node) is = absurd (omega arith)
not_two (command.GateShut node) is = absurd (omega arith)
not_two (command.LogTooLong most) is = absurd (omega arith)
not_two (command.Records fault) is = absurd (omega arith)

-- no status is above 4
command_at_most : (f : CommandFault) → command_status f ≤ 4
command_at_most command.BrokenStamps = omega arith
command_at_most command.OverLimit = omega arith
command_at_most command.BadLog = omega arith
command_at_most command.EmptyLog = omega arith
command_at_most (command.NoQuestion line) = omega arith
command_at_most command.NoEvent = omega arith
command_at_most command.Settings = omega arith
command_at_most (command.Mismatch node) = omega arith
command_at_most (command.GateShut node) = omega arith
command_at_most (command.LogTooLong most) = omega arith
command_at_most (command.Records fault) = omega arith

fault_at_most : (f : Fault) → status_of f ≤ 4
fault_at_most (stop.Line (line.Line e)) = omega arith
fault_at_most (stop.Line line.Range) = omega arith
fault_at_most (stop.Line line.Forms) = omega arith
fault_at_most (stop.Line line.Unsent) = omega arith
fault_at_most (stop.Line line.Receives) = omega arith
fault_at_most (stop.Line line.Output) = omega arith
fault_at_most (stop.Line line.Question) = omega arith
fault_at_most (stop.Line (line.Sign option)) = omega arith
fault_at_most (stop.Line (line.Part m)) = omega arith
fault_at_most (stop.Line (line.Records m)) = omega arith
fault_at_most (stop.Line line.Memory) = omega arith
fault_at_most stop.Encoding = omega arith
fault_at_most (stop.Command fault) = command_at_most fault

pub status_at_most : {T : Type 0} (r : Result T Fault) → status_at_end r ≤ 4
status_at_most (Ok v) = omega arith
status_at_most (Err f) = fault_at_most f

-- a fault of status 2 comes only of mistaken arguments
pub mistaken : (arguments : List Text) (f : Fault) → IsStop arguments f → status_of f ≡ 2 → AreMistaken arguments
mistaken arguments (stop.Line (line.Line e)) is two = inl is
mistaken arguments (stop.Line line.Range) is two = inr (inl is)
mistaken arguments (stop.Line line.Forms) is two = inr (inr (line.Forms, is))
mistaken arguments (stop.Line line.Unsent) is two = inr (inr (line.Unsent, is))
mistaken arguments (stop.Line line.Receives) is two = inr (inr (line.Receives, is))
mistaken arguments (stop.Line line.Output) is two = inr (inr (line.Output, is))
mistaken arguments (stop.Line line.Question) is two = inr (inr (line.Question, is))
mistaken arguments (stop.Line (line.Sign option)) is two = inr (inr (line.Sign option, is))
mistaken arguments (stop.Line (line.Part m)) is two = inr (inr (line.Part m, is))
mistaken arguments (stop.Line (line.Records m)) is two = inr (inr (line.Records m, is))
mistaken arguments (stop.Line line.Memory) is two = absurd (omega arith)
mistaken arguments stop.Encoding is two = absurd is
mistaken arguments (stop.Command fault) is two = absurd (not_two fault two)

-- so a performance ends in status 2 only if the arguments are mistaken
pub mistaken_end : {T : Type 0} (arguments : List Text) (r : Result T Fault) (status : ℕ) → IfErr r (IsStop arguments) → status ≡ status_at_end r
    → status ≡ 2 → AreMistaken arguments
mistaken_end arguments (Ok v) status stop is two = let none = is in absurd (omega arith)
mistaken_end arguments (Err f) status stop is two = mistaken arguments f stop (sym is ∙ two)

-- arguments that give no order may ask for a text
pub text_asked : (arguments : List Text) (f : LineFault) → IsRefusal arguments f → IsTextAsked f → AskForText arguments
text_asked arguments (line.Line e) refused text = (kind_of e, text, refused.1)
text_asked arguments line.Range refused text = absurd text
text_asked arguments line.Forms refused text = absurd text
text_asked arguments line.Unsent refused text = absurd text
text_asked arguments line.Receives refused text = absurd text
text_asked arguments line.Output refused text = absurd text
text_asked arguments line.Question refused text = absurd text
text_asked arguments (line.Sign option) refused text = absurd text
text_asked arguments (line.Part m) refused text = absurd text
text_asked arguments (line.Records m) refused text = absurd text
text_asked arguments line.Memory refused text = absurd text

-- if they don't, they are mistaken, unless memory was refused
pub line_stop : (arguments : List Text) (f : LineFault) → IsRefusal arguments f → (¬ IsTextAsked f) → IsStop arguments (stop.Line f)
line_stop arguments (line.Line e) refused no_text = (refused.0, (kind_of e, no_text, refused.1))
line_stop arguments line.Range refused no_text = refused
line_stop arguments line.Forms refused no_text = refused
line_stop arguments line.Unsent refused no_text = refused
line_stop arguments line.Receives refused no_text = refused
line_stop arguments line.Output refused no_text = refused
line_stop arguments line.Question refused no_text = refused
line_stop arguments (line.Sign option) refused no_text = refused
line_stop arguments (line.Part m) refused no_text = refused
line_stop arguments (line.Records m) refused no_text = refused
line_stop arguments line.Memory refused no_text = tt
