use Rattle.std.proofs.Common.{arith, rules}
use Rattle.hlc_arena.specs.Arena.{history_of}
use Rattle.hlc_table.proofs.NodeEvents.{first_is_next, well_formed_nodes}
use Rattle.hlc_table.proofs.node_walk.first_event.Goals as goal

pub returns-then-node-nodes : goal.returns-then-node-nodes
returns-then-node-nodes c = λ d event.
    let h = history_of c.args.history.now in
    let lt = well_formed_nodes h c.args.node.0 c.keeps_a_well_formed_history.ensures d event in
    absurd (omega (arith, lt, c.if-node-nodes.true, c.nodes.ensures))

pub returns : goal.returns
returns c = search (rules, first_is_next)
