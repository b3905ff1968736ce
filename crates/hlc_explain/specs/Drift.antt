-- How far stamps are ahead of readings.
use Rattle.std.specs.Prelude.{◌≡◌, ℕ, ◌+◌, List}
use Rattle.hlc_stamp.specs.Order.{Pair}
use Rattle.hlc_causality.specs.Causality.{Skeleton, skeleton_at}
use Rattle.hlc_causality.specs.Assignment.{pair_at}
use Rattle.hlc_causality.specs.ClockEvents.{ClockEvents, clock_event_at, clock_skeleton}
use Rattle.hlc_causality.specs.Forcing.{HasClockOrigin, HasOrigin}
use Rattle.hlc_causality.specs.NodeEvents.{IsFurthestAhead, drift_at}
use Rattle.hlc_causality.specs.Past.{IsGreatestReading}
use Rattle.hlc_explain.specs.declared.answers.Drift.{Drift}

-- the drift of a node: the greatest of its events' drifts, the first event that has it, and the origin of that event
pub record IsDriftOf (s : Skeleton) (pairs : List Pair) (node : ℕ) (drift : Drift) : Type 0 where
  pub furthest : IsFurthestAhead s pairs node drift.event.0
  pub ahead : drift.ahead ≡ drift_at s pairs drift.event.0
  pub origin : HasOrigin s pairs drift.event.0 drift.origin.0

-- why a node is so far ahead: the origin read that much more than the event, and nothing at or before the event read more
pub record IsDriftExplained (s : Skeleton) (drift : Drift) : Type 0 where
  pub origin_leads : (skeleton_at s drift.origin.0).reading ≡ (skeleton_at s drift.event.0).reading + drift.ahead
  pub none_leads_more : IsGreatestReading s drift.event.0 (skeleton_at s drift.origin.0).reading

-- the same by floors and ticks
pub record IsClockDriftOf (s : Skeleton) (t : ClockEvents) (pairs : List Pair) (node : ℕ) (drift : Drift) : Type 0 where
  pub furthest : IsFurthestAhead s pairs node drift.event.0
  pub ahead : drift.ahead ≡ drift_at s pairs drift.event.0
  pub origin : HasClockOrigin t pairs drift.event.0 drift.origin.0

-- why l of the event is so great: it is that of the origin's floor, and no floor at or before the event has a greater one
pub record IsClockDriftExplained (t : ClockEvents) (pairs : List Pair) (drift : Drift) : Type 0 where
  pub origin_leads : (clock_event_at t drift.origin.0).floor.l ≡ (pair_at pairs drift.event.0).l
  pub none_leads_more : IsGreatestReading (clock_skeleton t) drift.event.0 (pair_at pairs drift.event.0).l
