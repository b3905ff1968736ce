use Rattle.hlc_text.proofs.StepFacts.{HasRound}
use Rattle.hlc_text.proofs.steps.push_round.Given as goal

abbrev pub invariant-loop-node : goal.invariant-loop-node
invariant-loop-node g l = HasRound l.lists l.round l.node (g.W.Write.contents l.fn.writer) (g.W.Write.contents l.writer) l.fn.rows l.rows
