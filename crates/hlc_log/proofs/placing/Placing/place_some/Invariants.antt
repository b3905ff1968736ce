use Rattle.std.proofs.Common.{◌≡◌, length, vec_capacity}
use Rattle.hlc_log.specs.Placing.{AreTurns, IsPlacing}
use Rattle.hlc_log.specs.Turns.{turns_left}
use Rattle.hlc_log.proofs.placing.Placing.place_some.Given as goal

-- no event was placed yet
abbrev pub invariant-loop-node : goal.invariant-loop-node
invariant-loop-node l = record {
  placing : IsPlacing l.log.events l.self;
  turns : AreTurns l.log.events l.self.fronts.items l.self.turns;
  room : vec_capacity l.self.order ≡ vec_capacity l.initial.self.order;
  size : length l.self.order.items ≡ length l.initial.self.order.items;
}

abbrev pub decreases-loop-node : goal.decreases-loop-node
decreases-loop-node l = turns_left l.self.turns
