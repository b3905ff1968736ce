use Rattle.std.proofs.Common.{◌∙◌, ap}
use Rattle.hlc_core.specs.State.{State}
use Rattle.hlc_core.proofs.cluster.Cluster.capacity.Goals as goal

pub returns : goal.returns
returns c = c.capacity.ensures ∙ ap (λ (s : State). s.history.capacity) c.self.view_is
