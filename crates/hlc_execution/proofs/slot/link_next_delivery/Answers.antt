use Rattle.hlc_execution.specs.SlotChanges.{linked_to_following}
use Rattle.hlc_execution.proofs.Changes.{changed_at}
use Rattle.hlc_execution.proofs.slot.link_next_delivery.Goals as goal

pub returns-clause-slots : goal.returns-clause-slots
returns-clause-slots c =
    let slot = c.at_mut-slot in
    rw c.to-slot.ensures
    (changed_at c.args.slots.now.items c.args.last.0 slot.result.now (linked_to_following c.args.delivery) c.requires.last slot.ensures.value)
