use Rattle.std.proofs.Common.{◌≡◌, length}
use Rattle.hlc_log.specs.Resent.{AreAskedSends}
use Rattle.hlc_log.proofs.ResentLogs.{AreResentUpTo}
use Rattle.hlc_log.proofs.resent.take_resent.Given as goal

abbrev pub invariant-loop-place : goal.invariant-loop-place
invariant-loop-place l = record {
  len : length l.asked.items ≡ l.messages;
  taken : AreResentUpTo l.resent l.messages l.fn.log.events l.log.events l.place;
  asked : AreAskedSends l.fn.log.events l.resent l.place l.asked.items;
}
