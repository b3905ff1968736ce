use Rattle.hlc_log.proofs.ToldApart.{AreApartUpTo}
use Rattle.hlc_log.proofs.senders.tell_apart.Given as goal

abbrev pub invariant-loop-place : goal.invariant-loop-place
invariant-loop-place l = AreApartUpTo l.unnamed l.messages l.senders l.fn.log.events l.log.events l.place
