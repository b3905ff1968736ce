use Rattle.std.proofs.Common.{◌≡◌, ◌∙◌, ◌<◌, length, arith, ap, refl, sym}
use Rattle.std.specs.Prelude.{is_some}
use Rattle.hlc_causality.specs.ClockEvents.{ClockEvent, clock_event_at}
use Rattle.hlc_causality.specs.ReceiveEvents.{clock_events, event_by, own_at}
use Rattle.hlc_causality.proofs.Neighbours.{is_some_place}
use Rattle.hlc_causality.proofs.ReceiveEvents.{clock_events_at}
use Rattle.hlc_execution.specs.Slots.{event_of_slot, events_of_slots, send_in}
use Rattle.hlc_execution.proofs.SlotEvents.{length-events_of_slots}
use Rattle.hlc_execution.proofs.SlotNeighbours.{event_read, slot_exists}
use Rattle.hlc_execution.proofs.execution.Execution.rule.Goals as goal

module _ (c : goal.After-rule_at) where
  exists : c.args.id.0 < length c.self.inside.slots.items
  exists = slot_exists c.args.self.now c.self.inside.slots c.self.inside.ends c.args.id.0 c.self.view_is c.requires

  is_receive : is_some (event_of_slot c.at-slot.result.now).send ≡ c.is_some.result
  is_receive = is_some_place (send_in c.at-slot.result.now) ∙ ap is_some (sym c.send.ensures) ∙ sym c.is_some.ensures

  -- the rule that was read is that of the event
  read : event_by c.self.inside.rules.receives (own_at c.self.inside.rules c.args.id.0) (event_of_slot c.at-slot.result.now)
      ≡ clock_event_at (clock_events c.self.inside.rules (events_of_slots c.self.inside.slots.items)) c.args.id.0
  read =
      let slots = c.self.inside.slots.items in
      let rules = c.self.inside.rules in
      let there : c.args.id.0 < length (events_of_slots slots) = omega (arith, exists, length-events_of_slots slots) in
      ap (event_by rules.receives (own_at rules c.args.id.0)) (sym (event_read slots c.args.id.0 c.at-slot.result.now exists c.at-slot.ensures))
      ∙ sym (clock_events_at rules (events_of_slots slots) c.args.id.0 there)

pub returns-clause-floor : goal.returns-clause-floor
returns-clause-floor c =
    rw (← c.self.view_is)
    (c.rule_at.ensures.floor (event_of_slot c.at-slot.result.now) (is_receive c) refl ∙ ap (λ (y : ClockEvent). y.floor) (read c))

pub returns-clause-ticks : goal.returns-clause-ticks
returns-clause-ticks c =
    rw (← c.self.view_is)
    (c.rule_at.ensures.ticks (event_of_slot c.at-slot.result.now) (is_receive c) refl ∙ ap (λ (y : ClockEvent). y.ticks) (read c))
