use Rattle.hlc_log.proofs.Reorderings.{reordering_keeps_happened_before, reordering_keeps_least}
use Rattle.hlc_log.proofs.laws.reordering_keeps_stamps.Goals as goal

pub returns : goal.returns
returns c = record {
  happened_before = reordering_keeps_happened_before;
  least = reordering_keeps_least;
}
