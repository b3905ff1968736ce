use Rattle.std.proofs.Common.{◌<◌, length}
use Rattle.hlc_execution.specs.SlotChanges.{linked_to_next}
use Rattle.hlc_execution.proofs.Changes.{changed_at}
use Rattle.hlc_execution.proofs.slot.link_at_node.Goals as goal

pub returns-clause-slots : goal.returns-clause-slots
returns-clause-slots c =
    let previous = c.in_ok-previous.previous in
    let exists : previous.0 < length c.args.slots.now.items = rw c.in_ok-previous.was at c.requires.previous in
    rw (c.in_ok-previous.was, c.to-slot.ensures)
    (changed_at c.args.slots.now.items previous.0 c.at_mut-slot.result.now (linked_to_next c.args.next) exists c.at_mut-slot.ensures.value)
