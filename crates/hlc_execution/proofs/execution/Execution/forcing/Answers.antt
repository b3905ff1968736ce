use Rattle.hlc_causality.proofs.TickingReceives.{names_by_readings}
use Rattle.hlc_execution.proofs.SlotNeighbours.{slot_exists, slot_forcing}
use Rattle.hlc_execution.proofs.execution.Execution.forcing.Goals as goal

pub returns-clause-forcing : goal.returns-clause-forcing
returns-clause-forcing c =
    let slots = c.self.inside.slots in
    let ends = c.self.inside.ends in
    let rules = c.self.inside.rules in
    let exists = slot_exists c.args.self.now slots ends c.args.id.0 c.self.view_is c.requires in
    let slot = c.at-slot in
    let kept = c.self.invariant in
    rw (← c.self.view_is, c.forcing.ensures)
    (slot_forcing slots.items c.args.id.0 slot.result.now exists slot.ensures kept.linked rules ends.len slots.room kept.execution kept.forced)

pub returns-clause-ticking : goal.returns-clause-ticking
returns-clause-ticking c = λ ticks.
    let x = c.args.self.now in
    names_by_readings x.rules x.events ticks x.stamps c.args.id.0 _ (returns-clause-forcing c)
