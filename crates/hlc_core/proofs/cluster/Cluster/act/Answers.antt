use Rattle.std.proofs.Common.{subst}
use Rattle.hlc_core.specs.Request.{Request}
use Rattle.hlc_core.specs.Step.{IsAnswered}
use Rattle.hlc_core.proofs.cluster.Cluster.act.Goals as goal

pub returns-clause-answer : goal.returns-clause-answer
returns-clause-answer c =
    subst (λ (r : Request). IsAnswered c.args.self.now c.args.node.0 c.args.reading r c.ask.result c.ask.new.self)
    c.as_ref.ensures c.ask.ensures.answer
