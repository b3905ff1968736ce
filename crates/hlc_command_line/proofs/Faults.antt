-- Faults of which no answer tells, and the others.
use Rattle.std.proofs.Common.{◌≡◌, Result, Ok, Err, refl, subst, sym}
use Rattle.std.specs.Prelude.{IfErr, OnOk}
use Rattle.std.specs.Result.{IsErrAnd}
use Rattle.hlc_csv.specs.declared.output_fault.OutputFault.{OutputFault}
use Rattle.hlc_csv.specs.declared.output_fault.OutputFault.TheVariants as output
use Rattle.hlc_diagram.specs.declared.draw_fault.DrawFault.{DrawFault}
use Rattle.hlc_diagram.specs.declared.draw_fault.DrawFault.TheVariants as drawing
use Rattle.hlc_command_line.specs.CommandFault.{IsOfAnswer, IsOfInput, draw_stop, output_stop}
use Rattle.hlc_command_line.specs.declared.command_fault.CommandFault.TheVariants as stop

-- what holds of the error that a result is, holds of its error
pub if_err_is : {T E : Type 0} (r : Result T E) (e : E) (P : E → Type 0) → IsErrAnd r (λ f. f ≡ e) → P e → IfErr r P
if_err_is (Ok v) e P is h = tt
if_err_is (Err f) e P is h = subst P (sym is) h

-- what holds of an error says what else holds of it
pub if_err : {T E : Type 0} (r : Result T E) (P Q : E → Type 0) → ((e : E) → P e → Q e) → IfErr r P → IfErr r Q
if_err (Ok v) P Q step h = tt
if_err (Err e) P Q step h = step e h

-- what holds of a result that is no error says what else does
pub on_ok_two : {T E : Type 0} (r : Result T E) (A B C : Type 0) → (A → B → C) → OnOk r A → OnOk r B → OnOk r C
on_ok_two (Ok v) A B C step a b = step a b
on_ok_two (Err e) A B C step a b = tt

pub on_ok_three : {T E : Type 0} (r : Result T E) (A B C D : Type 0) → (A → B → C → D) → OnOk r A → OnOk r B → OnOk r C → OnOk r D
on_ok_three (Ok v) A B C D step a b c = step a b c
on_ok_three (Err e) A B C D step a b c = tt

-- a fault of the output is none of the input
pub output_read : (f : OutputFault) → IsOfInput (output_stop f) → ⊥
output_read output.Write input = input
output_read output.Memory input = input

-- nor is that of a drawing
pub draw_read : (f : DrawFault) → IsOfInput (draw_stop f) → ⊥
draw_read drawing.NoEvent input = input
draw_read drawing.Write input = input
draw_read drawing.Memory input = input

-- a drawing stops with the answer written only for want of an event
pub draw_told : (P Q : Type 0) (f : DrawFault) → (f ≡ drawing.NoEvent → P) → (f ≡ drawing.NoEvent → Q)
    → IsOfAnswer (draw_stop f) → (draw_stop f ≡ stop.NoEvent) × P × Q
draw_told P Q drawing.NoEvent p q told = (refl, p refl, q refl)
draw_told P Q drawing.Write p q told = absurd told
draw_told P Q drawing.Memory p q told = absurd told
