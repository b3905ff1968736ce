use Rattle.std.proofs.Common.{◌≡◌, ◌∙◌, length, arith, sym, ap}
use Rattle.hlc_log.specs.declared.log_event.LogEvent.{LogEvent}
use Rattle.hlc_log.specs.Events.{event_at}
use Rattle.hlc_log.specs.Log.{StoredLog}
use Rattle.hlc_log.specs.Slots.{aside_at, aside_of, stored_event}
use Rattle.hlc_log.proofs.StoredEvents.{stored_at, stored_size}
use Rattle.hlc_log.proofs.log.Log.slot.Goals as goal

pub at-requires : goal.at-requires
at-requires c =
    let slots = c.self.inside.slots.items in
    let asides = c.self.inside.asides in
    let seen = ap (λ (log : StoredLog). length log.events) c.self.view_is in
    let size = stored_size asides slots in
    omega (arith, c.requires, seen, size)

pub returns : goal.returns
returns c =
    let slots = c.self.inside.slots.items in
    let asides = c.self.inside.asides in
    let seen = ap (λ (log : StoredLog). length log.events) c.self.view_is in
    let size = stored_size asides slots in
    let place = c.args.place.0 in
    let slot = c.at.result.now in
    let is : event_at c.args.self.now.events place ≡ stored_event (aside_at asides place) slot =
    ap (λ (log : StoredLog). event_at log.events place) (sym c.self.view_is) ∙ stored_at asides slots place slot (omega (arith, c.requires, seen, size))
    ∙ ap (stored_event (aside_at asides place)) (sym c.at.ensures) in
    ap (λ (event : LogEvent). stored_event (aside_of event) slot) is ∙ sym is
