-- Two events of a node that stand in each other's place.
use Rattle.std.specs.Prelude.{ℕ, ◌&&◌, Bool, Option, Some, List, if◌then◌else◌, nat_le}
use Rattle.hlc_stamp.specs.Order.{Pair}
use Rattle.hlc_causality.specs.Assignment.{pair_at}
use Rattle.hlc_causality.specs.ClockEvents.{ClockEvents, clock_event_at, clock_skeleton}
use Rattle.hlc_causality.specs.FollowedClockChains.{is_same_pair}
use Rattle.hlc_causality.specs.Predecessors.{previous_of, send_of}
use Rattle.hlc_causes.specs.Causes.{top_at}
use Rattle.hlc_causes.specs.Rule.{greatest_of, next_l, rule_pair}

-- the least pair with a c up to top that could be written at f, if this event were the previous one of its node
abbrev pub least_after : ClockEvents → List Pair → (top f : ℕ) → (previous : Option ℕ) → Pair
least_after t claimed top f previous =
    let x = clock_event_at t f in
    let p = rule_pair x.ticks (greatest_of claimed previous (send_of (clock_skeleton t) f)) x.floor in
    if nat_le p.c top then p else next_l p

-- whether f would keep the rule, if this event were the previous one of its node
abbrev pub keeps_after : ClockEvents → List Pair → (full f : ℕ) → (previous : Option ℕ) → Bool
keeps_after t claimed full f previous = is_same_pair (pair_at claimed f) (least_after t claimed (top_at claimed full f) f previous)

-- whether f and d, its node's event before f, stand swapped: f would keep the rule after the event before d, and d after f, by the stamps that
-- each saw claimed
abbrev pub stand_swapped : ClockEvents → (seen : ℕ → List Pair) → (full f d : ℕ) → Bool
stand_swapped t seen full f d =
    keeps_after t (seen f) full f (previous_of (clock_skeleton t) d) && keeps_after t (seen d) full d (Some f)
