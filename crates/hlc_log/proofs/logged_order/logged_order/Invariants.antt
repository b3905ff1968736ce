use Rattle.std.proofs.Common.{◌≡◌, ◌≤◌}
use Rattle.std.specs.Vec.{vec_capacity}
use Rattle.hlc_stamp.specs.Ids.{places_of}
use Rattle.hlc_causality.specs.Places.{places_below}
use Rattle.hlc_log.proofs.logged_order.logged_order.Given as goal

abbrev pub invariant-loop-place : goal.invariant-loop-place
invariant-loop-place l = record {
  places : places_of l.order.items ≡ places_below l.place;
  room : l.events ≤ vec_capacity l.order;
}
