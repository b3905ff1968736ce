use Rattle.std.proofs.Common.{◌≡◌, map, take}
use Rattle.hlc_stamp.specs.Ids.{places_of}
use Rattle.hlc_open_log.specs.Opened.{cycle_line}
use Rattle.hlc_open_log.proofs.opening.cycle_lines.Given as goal

abbrev pub invariant-loop-place : goal.invariant-loop-place
invariant-loop-place l = l.lines.items ≡ map (cycle_line l.log.events) (places_of (take l.place-index l.places))
