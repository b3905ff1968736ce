use Rattle.std.proofs.Common.{◌≡◌, length, take}
use Rattle.hlc_log.specs.Unsent.{AreSentMarks}
use Rattle.hlc_log.proofs.unsent.sent_messages.Given as goal

-- the messages that events so far send have their marks
abbrev pub invariant-loop-place : goal.invariant-loop-place
invariant-loop-place l = record {
  len : length l.sent.items ≡ l.messages;
  marks : AreSentMarks (take l.place l.log.events) l.sent.items;
}
