use Rattle.std.proofs.Common.{◌≡◌, ◌∷◌, ◌<◌, ℕ, List, length, Some, None, arith, rules, subst, sym, ap, ◌∙◌}
use Rattle.std.proofs.lemmas.List.{get_or-map, length-map}
use Rattle.hlc_stamp.specs.declared.id.EventId.{EventId}
use Rattle.hlc_execution.specs.declared.slot.Slot.{Slot}
use Rattle.hlc_execution.specs.Links.{label_at, link_at}
use Rattle.hlc_execution.specs.Slots.{next_deliveries_of, send_labels}
use Rattle.hlc_execution.specs.Deliveries.{AreDeliveriesLinked, deliveries_from}
use Rattle.hlc_execution.proofs.Links.{labelled_within}
use Rattle.hlc_execution.proofs.SlotEvents.{next_delivery_of, send_label}
use Rattle.hlc_execution.proofs.DeliveryLinks.{deliveries_from-step, next_linked}
use Rattle.hlc_execution.proofs.deliveries.DeliveriesIterator.next.Goals as goal

-- where the delivery that is given leads
module _ (c : goal.After-self-1) where
  abbrev slots : List Slot
  slots = c.self.inside.slots.now.items

  abbrev next : EventId
  next = c.in_ok-delivery.delivery

  is_next : c.self.inside.next ≡ Some next
  is_next = c.in_ok-delivery.was

  labelled : (sent : ℕ) × (label_at (send_labels slots) next.0 ≡ Some sent)
  labelled = rw is_next at c.self.invariant.delivery

  link : link_at (next_deliveries_of slots) next.0 ≡ c.event-self-inside.result
  link =
      let within = labelled_within (send_labels slots) next.0 labelled.0 labelled.1 in
      let exists : next.0 < length slots = omega (arith, within, length-map slots send_label) in
      get_or-map next_delivery_of slots next.0 c.at-slot.result.now None exists
      ∙ ap next_delivery_of (sym c.at-slot.ensures)
      ∙ sym c.event-self-inside.ensures

pub invariant_of-self : goal.invariant_of-self
invariant_of-self c =
    let sent = labelled c in
    subst (AreDeliveriesLinked (slots c)) (link c) (next_linked (slots c) (next c) sent.0 c.self.invariant.linked sent.1)

pub returns-clause-steps : goal.returns-clause-steps
returns-clause-steps c =
    let sent = labelled c in
    sym c.self.view_is
    ∙ ap (deliveries_from (slots c)) (is_next c)
    ∙ deliveries_from-step (slots c) (next c) sent.0 c.self.invariant.linked sent.1
    ∙ ap (λ link. (next c).0 ∷ deliveries_from (slots c) link) (link c)

pub returns-clause-goes : goal.returns-clause-goes
returns-clause-goes c =
    let shorter = ap length (returns-clause-steps c) in
    search rules
