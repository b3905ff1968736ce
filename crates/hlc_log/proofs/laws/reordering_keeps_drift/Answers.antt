use Rattle.hlc_log.proofs.ReorderedChains.{reordering_keeps_chains}
use Rattle.hlc_log.proofs.Reorderings.{reordering_keeps_furthest_ahead}
use Rattle.hlc_log.proofs.laws.reordering_keeps_drift.Goals as goal

pub returns : goal.returns
returns c = record {
  furthest = reordering_keeps_furthest_ahead;
  chains = reordering_keeps_chains;
}
