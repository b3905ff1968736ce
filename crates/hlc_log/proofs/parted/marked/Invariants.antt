use Rattle.std.proofs.Common.{◌≡◌}
use Rattle.std.specs.List.{filter}
use Rattle.hlc_stamp.specs.Ids.{places_of}
use Rattle.hlc_causality.specs.Places.{places_below}
use Rattle.hlc_log.specs.Parted.{is_marked}
use Rattle.hlc_log.proofs.parted.marked.Given as goal

abbrev pub invariant-loop-place : goal.invariant-loop-place
invariant-loop-place l = places_of l.places.items ≡ filter (is_marked l.marks l.mark) (places_below l.place)
