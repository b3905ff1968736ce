use Rattle.std.proofs.Common.{◌≡◌, map, take}
use Rattle.hlc_stamp.specs.Ids.{places_of}
use Rattle.hlc_ordered_log.specs.InOrder.{line_in}
use Rattle.hlc_log_audit.proofs.lines.lines_of.Given as goal

-- the lines of the events so far are there
abbrev pub invariant-loop-event : goal.invariant-loop-event
invariant-loop-event l = l.lines.items ≡ map (line_in l.log) (places_of (take l.event-index l.events))
