use Rattle.hlc_text.proofs.StepFacts.{HasPrinted}
use Rattle.hlc_text.proofs.steps.print_steps.Given as goal

abbrev pub invariant-loop-round : goal.invariant-loop-round
invariant-loop-round g l = HasPrinted l.lists l.round (g.W.Write.contents l.fn.writer) (g.W.Write.contents l.writer) l.rows
