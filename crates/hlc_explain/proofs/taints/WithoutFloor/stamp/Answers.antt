use Rattle.std.proofs.Common.{◌∙◌}
use Rattle.hlc_explain.proofs.LeastWithout.{stamp_before}
use Rattle.hlc_explain.proofs.taints.WithoutFloor.stamp.Goals as goal

pub returns-then-id-self : goal.returns-then-id-self
returns-then-id-self c =
    c.stamp.ensures ∙ stamp_before c.args.execution.now c.args.self.now.event.0 c.args.id.0 c.requires.first c.requires.least c.if-id-self.true
