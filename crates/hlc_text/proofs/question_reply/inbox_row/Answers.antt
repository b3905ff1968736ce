use Rattle.std.proofs.Common.{append_assoc}
use Rattle.hlc_text.proofs.question_reply.inbox_row.Goals as goal

pub loop-sent-preserved : goal.loop-sent-preserved
loop-sent-preserved c =
    rw (c.in_ok-push.ensures.items, c.from-in-loop-sent.ensures, append_assoc) (rw c.in-Some.ensures.steps at c.loop-sent.invariant)
