use Rattle.hlc_log.specs.Placing.{LinksToFirstFront}
use Rattle.hlc_log.proofs.placing.Placing.first_waiting.Given as goal

abbrev pub invariant-loop-front : goal.invariant-loop-front
invariant-loop-front l = LinksToFirstFront l.self.fronts.items l.front-index l.first
