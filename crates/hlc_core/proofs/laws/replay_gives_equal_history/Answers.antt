use Rattle.hlc_core.proofs.Replaying.{clusters_replay, lawful_is_reached, replay_gives_equal_history}
use Rattle.hlc_core.proofs.laws.replay_gives_equal_history.Goals as goal

pub returns-clause-equal : goal.returns-clause-equal
returns-clause-equal c = replay_gives_equal_history

pub returns-clause-clusters : goal.returns-clause-clusters
returns-clause-clusters c = clusters_replay

pub returns-clause-reached : goal.returns-clause-reached
returns-clause-reached c = lawful_is_reached
