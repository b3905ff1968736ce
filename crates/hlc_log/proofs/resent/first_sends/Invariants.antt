use Rattle.std.proofs.Common.{◌≡◌, ◌≤◌, length}
use Rattle.hlc_log.specs.Resent.{AreFirstSends, resent_before}
use Rattle.hlc_log.proofs.resent.first_sends.Given as goal

-- the links lead to the first of the sends so far, and so many of these were no first ones
abbrev pub invariant-loop-place : goal.invariant-loop-place
invariant-loop-place l = record {
  len : length l.links.items ≡ l.messages;
  links : AreFirstSends l.log.events l.place l.links.items;
  resent : l.resent ≡ resent_before l.log.events l.place;
  few : l.resent ≤ l.place;
}
