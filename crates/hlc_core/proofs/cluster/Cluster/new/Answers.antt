use Rattle.hlc_core.proofs.cluster.Cluster.new.Goals as goal

pub returns : goal.returns
returns c = c.with_settings.ensures
