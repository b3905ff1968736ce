use Rattle.std.proofs.Common.{◌<◌, length, arith}
use Rattle.hlc_execution.specs.Slots.{events_of_slots, stamps_of_slots}
use Rattle.hlc_execution.proofs.NodeEnds.{fits_node}
use Rattle.hlc_execution.proofs.execution.Execution.ends_of.Goals as goal

pub returns : goal.returns
returns c =
    let slots = c.self.inside.slots.items in
    let ends = c.self.inside.ends in
    let within = rw (← c.self.view_is) at c.requires in
    let exists : c.args.node.0 < length ends.items = omega (arith, within, ends.ok.0) in
    let events = events_of_slots slots in
    let stamps = stamps_of_slots slots in
    rw (← c.self.view_is)
    (fits_node events stamps ends.items c.args.node.0 c.index.result.now c.self.invariant.each_node exists c.index.ensures)
