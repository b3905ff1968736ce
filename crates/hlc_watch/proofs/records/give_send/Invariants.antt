use Rattle.std.proofs.Common.{◌≡◌, ◌++◌, map, take, drop}
use Rattle.hlc_watch.specs.Records.{with_send}
use Rattle.hlc_watch.proofs.records.give_send.Given as goal

abbrev pub invariant-loop-records : goal.invariant-loop-records
invariant-loop-records l = l.waited ≡ map (with_send l.send) (take l.records-index l.initial.waited) ++ drop l.records-index l.initial.waited
