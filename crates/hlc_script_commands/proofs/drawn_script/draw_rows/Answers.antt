use Rattle.std.proofs.Common.{◌≡◌, ◌∙◌, Err, Option, ap, false, inl, inr, refl, subst, sym, true, ⊎_elim}
use Rattle.hlc_stamp.specs.declared.id.EventId.{EventId}
use Rattle.hlc_arena.specs.Arena.{history_of}
use Rattle.hlc_diagram.specs.Chosen.{IsMissing}
use Rattle.hlc_diagram.specs.declared.draw_fault.DrawFault.{DrawFault}
use Rattle.hlc_command_line.proofs.Faults.{draw_read, draw_told, if_err_is}
use Rattle.hlc_script_commands.proofs.DrawnScripts.{rows_text}
use Rattle.hlc_script_commands.proofs.drawn_script.draw_rows.Goals as goal

pub returns-in_err-draw_with-clause-told : goal.returns-in_err-draw_with-clause-told
returns-in_err-draw_with-clause-told g c =
    let seen = c.view_of-view.ensures in
    let h = history_of c.args.history.now in
    if_err_is c.from_residual.result _ _ c.from_residual.ensures.1
    (draw_told _ _ c.in_err-draw_with.field-0.0
    (λ lacks.
    rows_text h c.args.undelivered.now c.args.rows c.args.explained _ _ _ _ seen.view c.len.ensures.value
    (c.in_err-draw_with.ensures.drawn_without (ap (λ (e : DrawFault). Err e) lacks)))
    (λ lacks.
    inl
    (subst (λ (e : Option EventId). IsMissing h.events e) seen.chain
    (c.in_err-draw_with.ensures.no_event (ap (λ (e : DrawFault). Err e) lacks)))))

pub returns-in_err-draw_with-clause-read : goal.returns-in_err-draw_with-clause-read
returns-in_err-draw_with-clause-read g c =
    if_err_is c.from_residual.result _ _ c.from_residual.ensures.1 (draw_read c.in_err-draw_with.field-0.0)

pub returns-then-is_missing-clause-told : goal.returns-then-is_missing-clause-told
returns-then-is_missing-clause-told g c =
    let h = history_of c.args.history.now in
    λ _. (
      refl,
      rows_text h c.args.undelivered.now c.args.rows c.args.explained _ _ _ _ c.view_of-view.ensures.view c.len.ensures.value
          c.in_ok-draw_with.ensures.drawn,
      inr (subst (λ (e : Option EventId). IsMissing h.events e) c.event.ensures (c.is_missing.ensures.0 c.if-is_missing.true)),
    )

pub returns-clause-drawn : goal.returns-clause-drawn
returns-clause-drawn g c =
    rows_text (history_of c.args.history.now) c.args.undelivered.now c.args.rows c.args.explained _ _ _ _ c.view_of-view.ensures.view
    c.len.ensures.value c.in_ok-draw_with.ensures.drawn

pub returns-clause-there : goal.returns-clause-there
returns-clause-there g c =
    let h = history_of c.args.history.now in
    ⊎_elim
    (λ lacks. c.in_ok-draw_with.ensures.event (subst (λ (e : Option EventId). IsMissing h.events e) (sym c.view_of-view.ensures.chain) lacks))
    (λ lacks.
    let told : false ≡ true =
    sym c.if-is_missing.false ∙ c.is_missing.ensures.1 (subst (λ (e : Option EventId). IsMissing h.events e) (sym c.event.ensures) lacks) in
    cc)
