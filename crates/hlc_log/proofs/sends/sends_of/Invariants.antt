use Rattle.std.proofs.Common.{◌≡◌, length}
use Rattle.hlc_log.specs.SendLinks.{AreSendLinks}
use Rattle.hlc_log.proofs.sends.sends_of.Given as goal

-- the links lead to the sends so far
abbrev pub invariant-loop-place : goal.invariant-loop-place
invariant-loop-place l = record {
  len : length l.sends.items ≡ l.messages;
  links : AreSendLinks l.log.events l.place l.sends.items;
}
