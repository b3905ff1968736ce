use Rattle.std.proofs.Common.{◌≡◌}
use Rattle.hlc_stamp.specs.Ids.{places_of}
use Rattle.hlc_ordered_log.specs.InOrder.{HasFirst}
use Rattle.hlc_ordered_log.proofs.reordering.reordered_execution.Given as goal

-- the first events have their places, with the least stamps
abbrev pub invariant-loop-place : goal.invariant-loop-place
invariant-loop-place l = record {
  nodes : l.execution.nodes ≡ l.log.nodes;
  receives : l.execution.rules.receives ≡ l.log.receives;
  first : HasFirst l.log.events (places_of l.order) l.place-index l.execution;
}
