-- What the clock rule looks at: the greatest of the pairs claimed at the direct predecessors, the floor, and whether the event ticks.
use Rattle.std.specs.Prelude.{ℕ, ◌+◌, Bool, Option, Some, None, List, if◌then◌else◌}
use Rattle.std.specs.Option.{option_cmp, option_map}
use Rattle.std.specs.Ordering.{is_le, ord_max}
use Rattle.hlc_stamp.specs.Order.{Pair, stamp_cmp}
use Rattle.hlc_causality.specs.Assignment.{pair_at}
use Rattle.hlc_causality.specs.LeastFeasible.{next_pair}

-- the greater of the pairs claimed at two events, if there are any
abbrev pub greatest_of : List Pair → Option ℕ → Option ℕ → Option Pair
greatest_of claimed a b = ord_max (option_cmp stamp_cmp) (option_map (pair_at claimed) a) (option_map (pair_at claimed) b)

-- the least pair that isn't below a floor and may come directly after the greatest before it, if there is any
abbrev pub rule_pair : Bool → Option Pair → Pair → Pair
rule_pair ticks None floor = floor
rule_pair ticks (Some p) floor = if is_le (stamp_cmp floor p) then next_pair ticks p else floor

-- the pair with the next l, and c 0
abbrev pub next_l : Pair → Pair
next_l p = record { l = p.l + 1; c = 0 }
