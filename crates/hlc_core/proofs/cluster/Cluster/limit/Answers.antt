use Rattle.hlc_core.proofs.cluster.Cluster.limit.Goals as goal

pub returns : goal.returns
returns c = cc
