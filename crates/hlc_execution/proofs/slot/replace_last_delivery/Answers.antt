use Rattle.std.proofs.Common.{◌∙◌, sym}
use Rattle.hlc_execution.specs.Slots.{last_delivery_in}
use Rattle.hlc_execution.specs.SlotChanges.{linked_to_last}
use Rattle.hlc_execution.proofs.Changes.{changed_at}
use Rattle.hlc_execution.proofs.SlotNeighbours.{link_read}
use Rattle.hlc_execution.proofs.slot.replace_last_delivery.Goals as goal

pub returns-clause-slots : goal.returns-clause-slots
returns-clause-slots c =
    let slot = c.at_mut-slot in
    rw c.replace_last_delivery.ensures.slot
    (changed_at c.args.slots.now.items c.args.sent.0 slot.result.now (linked_to_last c.args.delivery) c.requires.sent slot.ensures.value)

pub returns-clause-value : goal.returns-clause-value
returns-clause-value c =
    let slot = c.at_mut-slot in
    c.replace_last_delivery.ensures.value
    ∙ sym (link_read c.args.slots.now.items c.args.sent.0 slot.result.now c.requires.sent slot.ensures.value last_delivery_in)
