-- The stamp that the clock rule gives an event of which none is told.
use Rattle.std.specs.Prelude.{ℕ, ◌-◌, ◌^◌, ◌<◌, List, if◌then◌else◌, nat_le, nat_lt}
use Rattle.hlc_stamp.specs.Order.{Pair}
use Rattle.hlc_causality.specs.ClockEvents.{ClockEvents, clock_event_at, clock_skeleton}
use Rattle.hlc_causality.specs.Predecessors.{previous_of, send_of}
use Rattle.hlc_causes.specs.Rule.{greatest_of, next_l, rule_pair}

-- the least pair at f that isn't below its floor and may come directly after those claimed at its direct predecessors
abbrev pub rule_pair_at : ClockEvents → List Pair → ℕ → Pair
rule_pair_at t claimed f =
    let x = clock_event_at t f in
    let s = clock_skeleton t in
    rule_pair x.ticks (greatest_of claimed (previous_of s f) (send_of s f)) x.floor

-- the least stamp that is at least a pair, which may have a c that is too great for a stamp: then it has the next l, and c 0; or, where there is
-- no next l, it is the greatest stamp with this l
abbrev pub stamp_for : Pair → Pair
stamp_for p =
    if nat_le p.c (2 ^ 32 - 1) then p
    else (if nat_lt p.l (2 ^ 64 - 1) then next_l p else record { l = p.l; c = 2 ^ 32 - 1 })

-- the stamp that the clock rule gives at f, after those claimed at its direct predecessors
abbrev pub given_at : ClockEvents → List Pair → ℕ → Pair
given_at t claimed f = stamp_for (rule_pair_at t claimed f)

-- a pair is a stamp: its l has 64 bits and its c has 32
pub record IsStamp (p : Pair) : Type 0 where
  pub l : p.l < 2 ^ 64
  pub c : p.c < 2 ^ 32
