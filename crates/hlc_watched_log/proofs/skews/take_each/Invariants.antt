use Rattle.std.proofs.Common.{◌≡◌, take}
use Rattle.hlc_watched_log.specs.Skews.{skews_after}
use Rattle.hlc_watched_log.proofs.skews.take_each.Given as goal

-- the first of them are taken in
abbrev pub invariant-loop-records : goal.invariant-loop-records
invariant-loop-records l = l.skews.entries ≡ skews_after l.fn.skews.entries (take l.records-index l.complete)
