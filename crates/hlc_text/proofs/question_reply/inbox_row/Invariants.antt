use Rattle.std.proofs.Common.{◌≡◌, ◌∷◌, ◌++◌}
use Rattle.hlc_text.proofs.question_reply.inbox_row.Given as goal

abbrev pub invariant-loop-sent : goal.invariant-loop-sent
invariant-loop-sent l = l.numbers.items ++ l.sent-iterator ≡ l.fn.node.0 ∷ l.fn.inbox
