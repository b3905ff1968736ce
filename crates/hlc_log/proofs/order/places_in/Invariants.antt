use Rattle.std.proofs.Common.{◌≡◌, ◌≤◌, length, map, take}
use Rattle.std.specs.Vec.{vec_capacity}
use Rattle.hlc_stamp.specs.Ids.{places_of}
use Rattle.hlc_log.specs.CausalOrder.{place_at}
use Rattle.hlc_log.proofs.order.places_in.Given as goal

abbrev pub invariant-loop-position : goal.invariant-loop-position
invariant-loop-position l = record {
  places : places_of l.places.items ≡ map (place_at (places_of l.standing)) (places_of (take l.position-index l.order));
  room : length l.order ≤ vec_capacity l.places;
}
