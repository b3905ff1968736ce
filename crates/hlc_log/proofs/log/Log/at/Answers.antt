use Rattle.std.proofs.Common.{◌∙◌, length, arith, refl, ap}
use Rattle.hlc_log.specs.declared.asides.Aside.{Aside}
use Rattle.hlc_log.specs.Events.{event_at}
use Rattle.hlc_log.specs.Log.{StoredLog}
use Rattle.hlc_log.specs.Slots.{aside_of, stored_event}
use Rattle.hlc_log.proofs.StoredEvents.{aside_kept, stored_size}
use Rattle.hlc_log.proofs.log.Log.at.Goals as goal

pub returns : goal.returns
returns c =
    let slots = c.self.inside.slots.items in
    let asides = c.self.inside.asides in
    let seen = ap (λ (log : StoredLog). length log.events) c.self.view_is in
    let size = stored_size asides slots in
    let place = c.args.place.0 in
    let slot = c.slot.result.now in
    c.event.ensures
    ∙ ap (λ (aside : Aside). stored_event aside slot)
    (c.at.ensures ∙ aside_kept asides aside_of (λ aside. aside) (λ aside slot. refl) slots place (omega (arith, c.requires, seen, size))
    ∙ ap (λ (log : StoredLog). aside_of (event_at log.events place)) c.self.view_is)
    ∙ c.slot.ensures
