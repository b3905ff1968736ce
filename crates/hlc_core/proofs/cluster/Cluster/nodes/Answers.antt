use Rattle.std.proofs.Common.{◌∙◌, ap}
use Rattle.hlc_core.specs.State.{State}
use Rattle.hlc_core.proofs.cluster.Cluster.nodes.Goals as goal

pub returns : goal.returns
returns c = c.nodes.ensures ∙ ap (λ (s : State). s.history.nodes) c.self.view_is
