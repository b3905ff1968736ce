use Rattle.std.proofs.Common.{◌∙◌, length, arith, refl, ap}
use Rattle.hlc_log.specs.Events.{event_at}
use Rattle.hlc_log.specs.Log.{StoredLog}
use Rattle.hlc_log.proofs.StoredEvents.{aside_kept, stored_size}
use Rattle.hlc_log.proofs.log.Log.carried_at.Goals as goal

pub returns : goal.returns
returns c =
    let slots = c.self.inside.slots.items in
    let asides = c.self.inside.asides in
    let seen = ap (λ (log : StoredLog). length log.events) c.self.view_is in
    let size = stored_size asides slots in
    let place = c.args.place.0 in
    c.carried_at.ensures
    ∙ aside_kept asides (λ event. event.carried) (λ aside. aside.carried) (λ aside slot. refl) slots place (omega (arith, c.requires, seen, size))
    ∙ ap (λ (log : StoredLog). (event_at log.events place).carried) c.self.view_is
