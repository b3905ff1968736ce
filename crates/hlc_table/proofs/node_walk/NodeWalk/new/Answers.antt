use Rattle.std.proofs.Common.{arith}
use Rattle.hlc_table.proofs.Walks.{stands_from}
use Rattle.hlc_table.proofs.node_walk.NodeWalk.new.Goals as goal

pub returns-clause-stands : goal.returns-clause-stands
returns-clause-stands c =
    let events = c.args.history.now.events in
    stands_from events c.args.node.0 0 c.new.result c.first_event.result c.first_event.ensures (omega arith) c.new.ensures
