use Rattle.std.proofs.Common.{◌<◌, length, arith}
use Rattle.hlc_execution.proofs.SlotNeighbours.{last_names}
use Rattle.hlc_execution.proofs.execution.Execution.last_at.Goals as goal

pub returns : goal.returns
returns c =
    let ends = c.self.inside.ends in
    let within = rw (← c.self.view_is) at c.requires in
    let exists : c.args.node.0 < length ends.items = omega (arith, within, ends.ok.0) in
    let slots = c.self.inside.slots.items in
    rw (← c.self.view_is, c.last_of.ensures)
    (last_names slots ends.items c.args.node.0 c.index.result.now c.self.invariant.linked exists c.index.ensures)
