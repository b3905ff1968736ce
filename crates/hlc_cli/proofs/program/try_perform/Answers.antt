use Rattle.std.proofs.Common.{◌≡◌, ◌∙◌, Err, Ok, Result, false, inl, inr, sym, true}
use Rattle.std.specs.Prelude.{IfOk, OnOk}
use Rattle.clap.specs.Walk.{texts}
use Rattle.hlc_command_line.proofs.Faults.{if_err_is}
use Rattle.hlc_cli.specs.Program.{IsTextAsked}
use Rattle.hlc_cli.proofs.Mistakes.{line_stop, not_two, text_asked}
use Rattle.hlc_cli.proofs.Notes.{err_unnoted, has_no_note}
use Rattle.hlc_cli.proofs.program.try_perform.Goals as goal

on_ok : {T E : Type 0} (r : Result T E) (P : Type 0) → P → OnOk r P
on_ok (Ok v) P holds = holds
on_ok (Err e) P holds = tt

if_ok : {T E : Type 0} (r : Result T E) (P Q : T → Type 0) → ((v : T) → P v → Q v) → IfOk r P → IfOk r Q
if_ok (Ok v) P Q step holds = step v holds
if_ok (Err e) P Q step holds = tt

pub returns-then-asks_for_text-clause-done : goal.returns-then-asks_for_text-clause-done
returns-then-asks_for_text-clause-done g c =
    on_ok c.unnoted.result _
    (inl (text_asked (texts c.args.arguments.now) c.in-Err.fault c.in-Err.ensures.refused (c.asks_for_text.ensures.0 c.if-asks_for_text.true)))

pub returns-then-asks_for_text-clause-noted : goal.returns-then-asks_for_text-clause-noted
returns-then-asks_for_text-clause-noted g c =
    if_ok c.unnoted.result _ _
    (λ note none. inl (text_asked (texts c.args.arguments.now) c.in-Err.fault c.in-Err.ensures.refused (c.asks_for_text.ensures.0 c.if-asks_for_text.true), none))
    (has_no_note c.show-shown.result _ c.unnoted.ensures)

pub returns-then-asks_for_text-clause-told : goal.returns-then-asks_for_text-clause-told
returns-then-asks_for_text-clause-told g c =
    err_unnoted c.show-shown.result _ _ _ (λ fault write answer. absurd (rw write at answer)) c.unnoted.ensures c.show-shown.ensures

pub returns-then-asks_for_text-clause-stopped : goal.returns-then-asks_for_text-clause-stopped
returns-then-asks_for_text-clause-stopped g c =
    err_unnoted c.show-shown.result _ _ _ (λ fault write. rw write tt) c.unnoted.ensures c.show-shown.ensures

pub returns-then-asks_for_text-clause-unread : goal.returns-then-asks_for_text-clause-unread
returns-then-asks_for_text-clause-unread g c =
    err_unnoted c.show-shown.result _ _ _ (λ fault write input. absurd (rw write at input)) c.unnoted.ensures c.show-shown.ensures

pub returns-then-asks_for_text-clause-begun : goal.returns-then-asks_for_text-clause-begun
returns-then-asks_for_text-clause-begun g c =
    inr (inl (text_asked (texts c.args.arguments.now) c.in-Err.fault c.in-Err.ensures.refused (c.asks_for_text.ensures.0 c.if-asks_for_text.true)))

pub returns-clause-stopped : goal.returns-clause-stopped
returns-clause-stopped g c =
    let no_text : ¬ IsTextAsked c.in-Err.fault
    = λ text. let told : false ≡ true = sym c.if-asks_for_text.false ∙ c.asks_for_text.ensures.1 text in cc in
    line_stop (texts c.args.arguments.now) c.in-Err.fault c.in-Err.ensures.refused no_text

pub returns-in_err-dispatch-in-Ok-clause-untouched : goal.returns-in_err-dispatch-in-Ok-clause-untouched
returns-in_err-dispatch-in-Ok-clause-untouched g c =
    if_err_is c.from_residual.result _ _ c.from_residual.ensures.1 (λ two. absurd (not_two _ two))
