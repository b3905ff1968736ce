use Rattle.std.proofs.Common.{◌≡◌, length}
use Rattle.hlc_stamp.specs.Ids.{places_of}
use Rattle.hlc_ordered_log.specs.InOrder.{AreSendsOf, HasFirst}
use Rattle.hlc_ordered_log.proofs.in_order.execution_in.Given as goal

-- the first events have their places, with the least stamps, and it is known where their sends stand
abbrev pub invariant-loop-place : goal.invariant-loop-place
invariant-loop-place l = record {
  nodes : l.execution.nodes ≡ l.fn.nodes;
  receives : l.execution.rules.receives ≡ l.fn.receives;
  first : HasFirst l.log.events (places_of l.order) l.place-index l.execution;
  len : length l.sends.items ≡ l.messages;
  sends : AreSendsOf l.log.events (places_of l.order) l.place-index l.sends.items;
}
