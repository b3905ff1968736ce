use Rattle.std.proofs.Common.{◌≡◌, take}
use Rattle.hlc_stamp.specs.Ids.{places_of}
use Rattle.hlc_log.specs.StandingOrder.{arranged}
use Rattle.hlc_log.proofs.log.Log.arranged.Given as goal

abbrev pub invariant-loop-place : goal.invariant-loop-place
invariant-loop-place l = l.log.events ≡ arranged l.self.events (places_of (take l.place-index l.places))
