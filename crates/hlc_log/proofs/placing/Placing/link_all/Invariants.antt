use Rattle.std.proofs.Common.{◌≡◌, length}
use Rattle.hlc_log.specs.Placing.{AreNodesLinked}
use Rattle.hlc_log.proofs.placing.Placing.link_all.Given as goal

-- the events from the place on are linked
abbrev pub invariant-loop-place : goal.invariant-loop-place
invariant-loop-place l = record {
  linked : AreNodesLinked l.log.events l.place l.self.next.items l.self.fronts.items;
  nodes : length l.self.fronts.items ≡ length l.fn.self.fronts.items;
  turns : l.self.turns ≡ l.fn.self.turns;
  order : l.self.order ≡ l.fn.self.order;
}
