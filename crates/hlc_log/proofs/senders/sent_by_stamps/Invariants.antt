use Rattle.std.proofs.Common.{◌≡◌, take}
use Rattle.std.specs.Map.{lookup}
use Rattle.std.specs.Prelude.{option_map, position}
use Rattle.hlc_log.specs.declared.senders.SentAs.{SentAs}
use Rattle.hlc_log.specs.Senders.{is_same_sent, is_sent_by, message_sent_at}
use Rattle.hlc_log.proofs.senders.sent_by_stamps.Given as goal

-- so it is of the events so far
abbrev pub invariant-loop-place : goal.invariant-loop-place
invariant-loop-place l = (key : SentAs) → lookup (is_same_sent key) l.sent.entries
    ≡ option_map (message_sent_at l.unnamed l.messages l.log.events) (position (is_sent_by key.node key.stamp) (take l.place l.log.events))
