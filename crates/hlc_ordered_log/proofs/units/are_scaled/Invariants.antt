use Rattle.std.proofs.Common.{◌≡◌, ◌≤◌}
use Rattle.std.specs.Prelude.{count_by, take}
use Rattle.hlc_ordered_log.specs.UnitFactor.{is_unscaled, tells_both}
use Rattle.hlc_ordered_log.proofs.units.are_scaled.Given as goal

-- those so far are counted
abbrev pub invariant-loop-place : goal.invariant-loop-place
invariant-loop-place l = record {
  told : l.told ≡ count_by tells_both (take l.place l.log.events);
  unscaled : l.unscaled ≡ count_by (is_unscaled l.factor) (take l.place l.log.events);
  few_told : l.told ≤ l.place;
  few_unscaled : l.unscaled ≤ l.place;
}
