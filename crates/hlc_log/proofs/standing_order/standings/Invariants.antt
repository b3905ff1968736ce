use Rattle.std.proofs.Common.{◌≡◌}
use Rattle.std.specs.Prelude.{map}
use Rattle.hlc_causality.specs.Places.{places_below}
use Rattle.hlc_log.specs.StandingOrder.{standing_at}
use Rattle.hlc_log.proofs.standing_order.standings.Given as goal

abbrev pub invariant-loop-place : goal.invariant-loop-place
invariant-loop-place l = l.standings.items ≡ map (standing_at l.log.events) (places_below l.place)
