use Rattle.hlc_execution.proofs.SlotNeighbours.{slot_exists, slot_next}
use Rattle.hlc_execution.proofs.execution.Execution.next_at_node.Goals as goal

pub returns : goal.returns
returns c =
    let slots = c.self.inside.slots.items in
    let exists = slot_exists c.args.self.now c.self.inside.slots c.self.inside.ends c.args.id.0 c.self.view_is c.requires in
    rw (← c.self.view_is, c.event.ensures)
    (slot_next slots c.args.id.0 c.at-slot.result.now exists c.at-slot.ensures c.self.invariant.linked)
