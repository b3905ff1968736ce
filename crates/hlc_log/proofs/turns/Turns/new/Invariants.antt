use Rattle.std.proofs.Common.{◌↔◌, ◌<◌}
use Rattle.hlc_stamp.specs.declared.id.NodeId.{NodeId}
use Rattle.hlc_log.specs.Turns.{HasTurn}
use Rattle.hlc_log.proofs.turns.Turns.new.Given as goal

-- the nodes so far have turns
abbrev pub invariant-loop-node : goal.invariant-loop-node
invariant-loop-node l = (node : NodeId) → HasTurn l.turns node ↔ (node.0 < l.node)
