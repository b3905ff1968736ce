use Rattle.std.proofs.Common.{◌≡◌}
use Rattle.std.specs.Map.{lookup}
use Rattle.hlc_log.specs.declared.resent.SentWith.{SentWith}
use Rattle.hlc_log.specs.Resent.{first_before, is_same_sent_with, sends_with}
use Rattle.hlc_log.proofs.resent.sends_with_stamps.Given as goal

-- so it is of the events so far
abbrev pub invariant-loop-place : goal.invariant-loop-place
invariant-loop-place l = (key : SentWith) → lookup (is_same_sent_with key) l.sent.entries
    ≡ first_before (sends_with key.message.0 key.stamp) l.log.events l.place
