use Rattle.std.proofs.Common.{◌≡◌, map, take}
use Rattle.hlc_stamp.specs.Ids.{places_of}
use Rattle.hlc_log_audit.specs.Answers.{position_or_end}
use Rattle.hlc_log_audit.proofs.lines.positions_or_end.Given as goal

-- the positions of those so far are there
abbrev pub invariant-loop-location : goal.invariant-loop-location
invariant-loop-location l = places_of l.events.items ≡ map (position_or_end l.files l.log) (take l.location-index l.locations)
