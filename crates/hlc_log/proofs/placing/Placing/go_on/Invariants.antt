use Rattle.std.proofs.Common.{◌≡◌, ◌-◌, ◌<◌, ◌≤◌, length, vec_capacity}
use Rattle.hlc_log.specs.Placing.{AreTurnsBeside, IsPlacing}
use Rattle.hlc_log.proofs.placing.Placing.go_on.Given as goal

abbrev pub invariant-loop-event : goal.invariant-loop-event
invariant-loop-event l = record {
  placing : IsPlacing l.log.events l.self;
  room : vec_capacity l.self.order ≡ vec_capacity l.initial.self.order;
  grows : length l.initial.self.order.items ≤ length l.self.order.items;
  stays : length l.self.order.items ≡ length l.initial.self.order.items → l.self.turns ≡ l.initial.self.turns;
  node : l.fn.node.0 < length l.self.fronts.items;
  others : AreTurnsBeside l.log.events l.self.fronts.items l.self.turns l.fn.node;
}

-- the events that have no place yet
abbrev pub decreases-loop-event : goal.decreases-loop-event
decreases-loop-event l = length l.log.events - length l.self.order.items
