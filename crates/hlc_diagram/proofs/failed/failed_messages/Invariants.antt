use Rattle.std.proofs.Common.{◌≡◌, take}
use Rattle.hlc_diagram.specs.Failed.{messages_in}
use Rattle.hlc_diagram.proofs.failed.failed_messages.Given as goal

-- the messages so far
abbrev pub invariant-loop-message : goal.invariant-loop-message
invariant-loop-message l = l.failed.entries ≡ messages_in (take l.message-index l.undelivered)
