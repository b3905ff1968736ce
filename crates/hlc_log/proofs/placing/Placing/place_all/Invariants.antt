use Rattle.std.proofs.Common.{◌≡◌, ◌-◌, length, vec_capacity}
use Rattle.hlc_log.specs.Placing.{AreTurns, IsPlacing}
use Rattle.hlc_log.proofs.placing.Placing.place_all.Given as goal

abbrev pub invariant-loop : goal.invariant-loop
invariant-loop l = record {
  placing : IsPlacing l.log.events l.self;
  turns : AreTurns l.log.events l.self.fronts.items l.self.turns;
  room : vec_capacity l.self.order ≡ vec_capacity l.initial.self.order;
}

-- the events that have no place yet
abbrev pub decreases-loop : goal.decreases-loop
decreases-loop l = length l.log.events - length l.self.order.items
