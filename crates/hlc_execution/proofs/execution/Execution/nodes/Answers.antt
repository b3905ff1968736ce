use Rattle.std.proofs.Common.{ap, ◌∙◌}
use Rattle.hlc_execution.specs.Execution.{StoredExecution}
use Rattle.hlc_execution.proofs.execution.Execution.nodes.Goals as goal

pub returns : goal.returns
returns c = c.len.ensures ∙ ap (λ (x : StoredExecution). x.nodes) c.self.view_is
