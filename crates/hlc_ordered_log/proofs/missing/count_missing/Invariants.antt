use Rattle.std.proofs.Common.{◌≡◌, ◌≤◌}
use Rattle.std.specs.Prelude.{count_by, take}
use Rattle.hlc_ordered_log.specs.Outside.{is_from_outside}
use Rattle.hlc_ordered_log.specs.Unread.{is_unread}
use Rattle.hlc_ordered_log.specs.Unstamped.{is_unstamped}
use Rattle.hlc_ordered_log.proofs.missing.count_missing.Given as goal

-- those so far are counted
abbrev pub invariant-loop-place : goal.invariant-loop-place
invariant-loop-place l = record {
  outside : l.outside ≡ count_by (λ event. is_from_outside event.kind) (take l.place l.log.events);
  unread : l.unread ≡ count_by is_unread (take l.place l.log.events);
  unstamped : l.unstamped ≡ count_by is_unstamped (take l.place l.log.events);
  few_outside : l.outside ≤ l.place;
  few_unread : l.unread ≤ l.place;
  few_unstamped : l.unstamped ≤ l.place;
}
