use Rattle.std.proofs.Common.{◌≡◌, take}
use Rattle.std.specs.List.{filter_map}
use Rattle.hlc_open_log.specs.Unopened.{bad_event}
use Rattle.hlc_open_log.proofs.opening.bad_events.Given as goal

abbrev pub invariant-loop-fault : goal.invariant-loop-fault
invariant-loop-fault l = l.events.items ≡ filter_map (bad_event l.files l.names l.log.events) (take l.fault-index l.faults)
