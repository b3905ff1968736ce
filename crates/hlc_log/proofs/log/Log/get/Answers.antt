use Rattle.std.proofs.Common.{◌∙◌, length, Option, arith, refl, subst, sym, ap}
use Rattle.std.specs.Prelude.{IsNone}
use Rattle.hlc_log.specs.declared.asides.Aside.{Aside}
use Rattle.hlc_log.specs.declared.log_event.LogEvent.{LogEvent}
use Rattle.hlc_log.specs.Events.{event_at}
use Rattle.hlc_log.specs.Log.{StoredLog}
use Rattle.hlc_log.specs.Slots.{aside_at, stored_event}
use Rattle.hlc_log.proofs.StoredEvents.{stored_at, stored_size}
use Rattle.hlc_log.proofs.log.Log.get.Goals as goal

pub returns-in_err-slot-clause-none : goal.returns-in_err-slot-clause-none
returns-in_err-slot-clause-none c =
    let slots = c.self.inside.slots.items in
    let asides = c.self.inside.asides in
    let seen = ap (λ (log : StoredLog). length log.events) c.self.view_is in
    let size = stored_size asides slots in (
      λ none. omega (arith, seen, size, c.in_err-slot.ensures.none.0 refl),
      λ past. subst (λ (o : Option LogEvent). IsNone o) (sym c.from_residual.ensures) refl,
    )

pub returns-clause-none : goal.returns-clause-none
returns-clause-none c =
    let slots = c.self.inside.slots.items in
    let asides = c.self.inside.asides in
    let seen = ap (λ (log : StoredLog). length log.events) c.self.view_is in
    let size = stored_size asides slots in
    (λ bad. absurd cc, λ past. absurd (omega (arith, past, seen, size, c.in_ok-slot.ensures.exists)))

pub returns-clause-event : goal.returns-clause-event
returns-clause-event c =
    let slots = c.self.inside.slots.items in
    let asides = c.self.inside.asides in
    let place = c.args.place.0 in
    let slot = c.in_ok-slot.slot.now in
    c.event.ensures ∙ ap (λ (aside : Aside). stored_event aside slot) c.at.ensures
    ∙ ap (stored_event (aside_at asides place)) c.in_ok-slot.ensures.item
    ∙ sym (stored_at asides slots place slot c.in_ok-slot.ensures.exists)
    ∙ ap (λ (log : StoredLog). event_at log.events place) c.self.view_is
