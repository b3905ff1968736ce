use Rattle.std.proofs.Common.{◌≡◌, length}
use Rattle.hlc_log.specs.ReceiveLinks.{AreReceivesLinked}
use Rattle.hlc_log.proofs.receive_links.ReceiveLinks.link_all.Given as goal

-- the events from the place on are linked
abbrev pub invariant-loop-place : goal.invariant-loop-place
invariant-loop-place l = record {
  len : length l.self.firsts.items ≡ length l.fn.self.firsts.items;
  linked : AreReceivesLinked l.log.events l.place l.self.firsts.items l.self.next.items;
}
