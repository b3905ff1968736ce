use Rattle.std.proofs.Common.{◌<◌, arith, refl, subst, sym}
use Rattle.std.specs.Prelude.{vec_len}
use Rattle.hlc_execution.specs.declared.slot.Slot.{Slot}
use Rattle.hlc_execution.proofs.SlotEvents.{length-events_of_slots, node_is_small}
use Rattle.hlc_execution.proofs.SlotNeighbours.{event_read, pair_read, slot_previous, slot_send}
use Rattle.hlc_execution.proofs.execution.Execution.get.Goals as goal

pub returns-clause-previous : goal.returns-clause-previous
returns-clause-previous c =
    let slots = c.self.inside.slots.items in
    let read = c.in_ok-slot in
    rw (← c.self.view_is, c.event.ensures)
    (slot_previous slots c.args.id.0 read.slot.now read.ensures.exists read.ensures.item c.self.invariant.linked)

pub returns-clause-node : goal.returns-clause-node
returns-clause-node c =
    let slots = c.self.inside.slots.items in
    let read = c.in_ok-slot in
    rw (← c.self.view_is)
    (subst (λ (slot : Slot). slot.node.0 < vec_len c.self.inside.ends) (sym read.ensures.item)
    (node_is_small slots _ _ _ c.self.invariant.execution c.args.id.0 read.ensures.exists read.slot.now))

pub returns-in_err-slot : goal.returns-in_err-slot
returns-in_err-slot c =
    let size = length-events_of_slots c.self.inside.slots.items in
    rw (c.from_residual.ensures, ← c.self.view_is)
    record {
      none = (λ is. omega (arith, size, c.in_err-slot.ensures.none.0 refl), λ le. refl);
      event = tt;
      stamp = tt;
      node = tt;
      previous = tt;
      send = tt;
    }

pub returns-clause-none : goal.returns-clause-none
returns-clause-none c =
    let size = length-events_of_slots c.self.inside.slots.items in
    rw (← c.self.view_is) (λ is. absurd (cc), λ le. absurd (omega (arith, size, c.in_ok-slot.ensures.exists)))

pub returns-clause-event : goal.returns-clause-event
returns-clause-event c =
    let read = c.in_ok-slot in
    rw (c.send.ensures, ← c.self.view_is) (sym (event_read c.self.inside.slots.items c.args.id.0 read.slot.now read.ensures.exists read.ensures.item))

pub returns-clause-stamp : goal.returns-clause-stamp
returns-clause-stamp c =
    let read = c.in_ok-slot in
    rw (c.stamp.ensures, ← c.self.view_is) (sym (pair_read c.self.inside.slots.items c.args.id.0 read.slot.now read.ensures.exists read.ensures.item))

pub returns-clause-send : goal.returns-clause-send
returns-clause-send c =
    let slots = c.self.inside.slots.items in
    let read = c.in_ok-slot in
    rw (← c.self.view_is, c.send.ensures)
    (slot_send slots c.args.id.0 read.slot.now read.ensures.exists read.ensures.item _ _ _ c.self.invariant.execution)
