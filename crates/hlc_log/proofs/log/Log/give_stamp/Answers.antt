use Rattle.std.proofs.Common.{◌∙◌, length, arith, set, sym, ap}
use Rattle.hlc_log.specs.Events.{event_at, with_stamp}
use Rattle.hlc_log.specs.Log.{StoredLog}
use Rattle.hlc_log.specs.Slots.{aside_at, stored_event, stored_events}
use Rattle.hlc_log.proofs.StoredEvents.{stored_at, stored_set, stored_size}
use Rattle.hlc_log.proofs.log.Log.give_stamp.Goals as goal

pub at_mut-requires : goal.at_mut-requires
at_mut-requires c =
    let seen = ap (λ (log : StoredLog). length log.events) c.self.view_is in
    let size = stored_size c.self.inside.asides c.self.inside.slots.items in
    omega (arith, c.requires.exists, seen, size)

pub returns : goal.returns
returns c =
    let slots = c.self.inside.slots.items in
    let asides = c.self.inside.asides in
    let seen = ap (λ (log : StoredLog). length log.events) c.self.view_is in
    let size = stored_size asides slots in
    let place = c.args.place.0 in
    let kept = aside_at asides place in
    let old = c.at_mut.result.now in
    let was = ap (stored_event kept) c.at_mut.ensures.value ∙ sym (stored_at asides slots place old (omega (arith, c.requires.exists, seen, size))) in
    stored_set asides slots place c.give_stamp.new.self
    ∙ ap (set (stored_events asides slots) place) (c.give_stamp.ensures kept ∙ ap (with_stamp c.args.stamp) was)
    ∙ ap (λ (log : StoredLog). set log.events place (with_stamp c.args.stamp (event_at log.events place))) c.self.view_is
