use Rattle.std.proofs.Common.{◌≡◌, ◌++◌, drop}
use Rattle.hlc_stamp.specs.Ids.{places_of}
use Rattle.hlc_figures.specs.ChainRows.{rows_from, rows_of}
use Rattle.hlc_figures.proofs.Chains.{RisesFrom}
use Rattle.hlc_figures.proofs.chain_rows.put_rows.Given as goal

-- the rows so far, with those of the rest of the chain, are all
abbrev pub invariant-loop-event : goal.invariant-loop-event
invariant-loop-event l = record {
  rises : RisesFrom l.before (places_of (drop l.event-index l.chain));
  rows : l.rows.items ++ rows_from l.before (places_of (drop l.event-index l.chain)) ≡ rows_of (places_of l.chain);
}
