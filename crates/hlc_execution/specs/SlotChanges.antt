-- What one more event changes in the slots before it.
use Rattle.std.specs.Prelude.{ℕ, zero, suc, Option, Some, None, List, [], ◌∷◌}
use Rattle.hlc_stamp.specs.declared.id.EventId.{EventId}
use Rattle.hlc_execution.specs.declared.slot.Slot.{Slot}
use Rattle.hlc_execution.specs.Links.{link_at}
use Rattle.hlc_execution.specs.Role.{counterpart_with_last, next_with_last, role_with_last}
use Rattle.hlc_execution.specs.Slots.{last_deliveries_of}

-- a list with the element at a place changed
abbrev pub with_changed : {X : Type 0} → List X → ℕ → (X → X) → List X
with_changed [] i change = []
with_changed (x ∷ xs) zero change = change x ∷ xs
with_changed (x ∷ xs) (suc i) change = x ∷ with_changed xs i change

-- a slot with a link to the next event of its node
abbrev pub linked_to_next : EventId → Slot → Slot
linked_to_next next slot = record slot { next_at_node = Some next }

-- a slot with a link from a send to its last delivery, which is also its first if it had none; the slot of a delivery stays
abbrev pub linked_to_last : EventId → Slot → Slot
linked_to_last delivery slot = record slot {
  role = role_with_last slot.role;
  counterpart = counterpart_with_last slot.role slot.counterpart delivery;
  next_delivery = next_with_last slot.role slot.next_delivery delivery;
}

-- a slot with a link from a delivery to the next one of the same send
abbrev pub linked_to_following : EventId → Slot → Slot
linked_to_following delivery slot = record slot { next_delivery = Some delivery }

-- slots with a link from the previous event of a node to the next
abbrev pub with_next : List Slot → Option EventId → EventId → List Slot
with_next slots None next = slots
with_next slots (Some previous) next = with_changed slots previous.0 (linked_to_next next)

-- slots with a link from a send to its last delivery
abbrev pub with_last_delivery : List Slot → ℕ → EventId → List Slot
with_last_delivery slots sent delivery = with_changed slots sent (linked_to_last delivery)

-- slots with a link from a delivery to the next one of the same send
abbrev pub with_next_delivery : List Slot → Option EventId → EventId → List Slot
with_next_delivery slots None delivery = slots
with_next_delivery slots (Some last) delivery = with_changed slots last.0 (linked_to_following delivery)

-- slots with the links to a new delivery: from the send, and from its last delivery before
abbrev pub with_delivery : List Slot → Option EventId → EventId → List Slot
with_delivery slots None delivery = slots
with_delivery slots (Some sent) delivery =
    with_next_delivery (with_last_delivery slots sent.0 delivery) (link_at (last_deliveries_of slots) sent.0) delivery
