use Rattle.hlc_log.proofs.ClockReorderedChains.{clock_reordering_keeps_chains}
use Rattle.hlc_log.proofs.ClockReorderings.{clock_reordering_keeps_least, rules_are_reordered}
use Rattle.hlc_log.proofs.laws.reordering_keeps_clock_stamps.Goals as goal

pub returns : goal.returns
returns c = record {
  least = clock_reordering_keeps_least;
  chains = clock_reordering_keeps_chains;
  rules = rules_are_reordered;
}
