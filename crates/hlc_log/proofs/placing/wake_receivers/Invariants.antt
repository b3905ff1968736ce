use Rattle.std.proofs.Common.{ℕ, ◌<◌, ◌⊎◌, length}
use Rattle.std.specs.Prelude.{IfSome}
use Rattle.hlc_stamp.specs.declared.id.NodeId.{NodeId}
use Rattle.hlc_log.specs.Messages.{Receives}
use Rattle.hlc_log.specs.Placing.{IsBefore, IsWoken}
use Rattle.hlc_log.specs.Turns.{HasTurn}
use Rattle.hlc_log.proofs.ReceiveLinks.{left_from}
use Rattle.hlc_log.proofs.placing.wake_receivers.Given as goal

-- the receives before the one that the link leads to are woken
abbrev pub invariant-loop-link : goal.invariant-loop-link
invariant-loop-link l = record {
  leads : IfSome l.link (λ e. Receives l.log.events e.0 l.fn.message.0);
  woken : (e : ℕ) → Receives l.log.events e l.fn.message.0 → IsBefore l.link e → IsWoken l.log.events l.fronts l.turns e;
  kept : (node : NodeId) → HasTurn l.initial.turns node → HasTurn l.turns node;
  below : (node : NodeId) → HasTurn l.turns node → HasTurn l.initial.turns node ⊎ (node.0 < length l.fronts);
}

abbrev pub decreases-loop-link : goal.decreases-loop-link
decreases-loop-link l = left_from l.log.events l.link
