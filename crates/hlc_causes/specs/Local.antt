-- The clock rule at one event, by what three records tell: its own, that of the event before it at its node, and that of what it delivers.
use Rattle.std.specs.Prelude.{ℕ, Bool, false, Option, Some, None, List, if◌then◌else◌, max, nat_le, not, option_map}
use Rattle.std.specs.Option.{option_cmp}
use Rattle.std.specs.Ordering.{is_lt, ord_max}
use Rattle.hlc_stamp.specs.declared.id.EventId.{EventId}
use Rattle.hlc_stamp.specs.Order.{Pair, stamp_cmp}
use Rattle.hlc_causality.specs.Assignment.{pair_at}
use Rattle.hlc_causality.specs.ClockEvents.{ClockEvents, clock_event_at, clock_skeleton}
use Rattle.hlc_causality.specs.Predecessors.{previous_of, send_of}
use Rattle.hlc_causes.specs.declared.answers.Causes.{Causes}
use Rattle.hlc_causes.specs.declared.local.LocalCauses.{LocalCauses}
use Rattle.hlc_causes.specs.declared.local.LocalEvent.{LocalEvent}
use Rattle.hlc_causes.specs.Rule.{next_l, rule_pair}
use Rattle.hlc_causes.specs.Verdicts.{follows}

-- what the clock rule looks at, at f
abbrev pub local_event : ClockEvents → List Pair → ℕ → LocalEvent
local_event t claimed f =
    let x = clock_event_at t f in
    let s = clock_skeleton t in
    record {
      rule = record { floor = x.floor; ticks = x.ticks };
      stamp = pair_at claimed f;
      previous = option_map (pair_at claimed) (previous_of s f);
      send = option_map (pair_at claimed) (send_of s f);
    }

-- whether the stamp may not come directly after another one, if there is one
abbrev pub is_not_after : LocalEvent → Option Pair → Bool
is_not_after x None = false
is_not_after x (Some p) = not (follows x.rule.ticks p x.stamp)

-- the least pair that could be written there
abbrev pub least_there : (full : ℕ) → LocalEvent → Pair
least_there full x =
    let p = rule_pair x.rule.ticks (ord_max (option_cmp stamp_cmp) x.previous x.send) x.rule.floor in
    if nat_le p.c (max full x.stamp.c) then p else next_l p

-- a pair, if it is below another one
abbrev pub if_below : Pair → Pair → Option Pair
if_below p q = if is_lt (stamp_cmp p q) then Some p else None

-- the rules that are broken there
abbrev pub local_causes : (full : ℕ) → LocalEvent → LocalCauses
local_causes full x = record {
  behind = is_lt (stamp_cmp x.stamp x.rule.floor);
  not_above_previous = is_not_after x x.previous;
  not_above_send = is_not_after x x.send;
  ahead = if_below (least_there full x) x.stamp;
}

-- an event, if a rule is broken by its stamp
abbrev pub named_if : Bool → Option ℕ → Option EventId
named_if broken place = if broken then option_map (λ n. record { 0 = n }) place else None

-- the same rules, with the events by whose stamps they are broken
abbrev pub placed_causes : (previous send : Option ℕ) → LocalCauses → Causes
placed_causes previous send causes = record {
  behind = causes.behind;
  not_above_previous = named_if causes.not_above_previous previous;
  not_above_send = named_if causes.not_above_send send;
  ahead = causes.ahead;
}
