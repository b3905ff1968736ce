-- Verdicts on stamps that are claimed for events, as a clock rule reads these.
use Rattle.std.specs.Prelude.{ℕ, Bool, Option, Some, None, List, if◌then◌else◌}
use Rattle.std.specs.Option.{option_or}
use Rattle.std.specs.Ordering.{is_le, is_lt}
use Rattle.hlc_stamp.specs.Order.{Pair, stamp_cmp}
use Rattle.hlc_causality.specs.Assignment.{pair_at}
use Rattle.hlc_causality.specs.ClockEvents.{ClockEvents, clock_event_at, clock_skeleton}
use Rattle.hlc_causality.specs.Predecessors.{previous_of, send_of}
use Rattle.hlc_verdict.specs.declared.verdict.Verdict.{Verdict}
use Rattle.hlc_verdict.specs.declared.verdict.Verdict.TheVariants.{Behind}
use Rattle.hlc_verdict.specs.Verdict.{not_above_or, verdict_by_least}

-- whether q may come directly after p: above it at an event that ticks, else not below it
abbrev pub follows : Bool → Pair → Pair → Bool
follows ticks p q = if ticks then is_lt (stamp_cmp p q) else is_le (stamp_cmp p q)

-- an event, unless the stamp claimed at f may come directly after the one claimed there: it isn't above that one or, where f doesn't
-- tick, is below it
abbrev pub if_not_above : ClockEvents → List Pair → ℕ → Option ℕ → Option ℕ
if_not_above t claimed f None = None
if_not_above t claimed f (Some d) =
    if follows (clock_event_at t f).ticks (pair_at claimed d) (pair_at claimed f) then None else Some d

-- the first direct predecessor above which the stamp claimed at f isn't: the previous event of its node, else its send
abbrev pub first_not_above : ClockEvents → List Pair → ℕ → Option ℕ
first_not_above t claimed f =
    let s = clock_skeleton t in option_or (if_not_above t claimed f (previous_of s f)) (if_not_above t claimed f (send_of s f))

-- the verdict on the stamp claimed at f, by the first case that holds: it is below its floor, not above a direct predecessor, or less
-- than, equal to or greater than the least stamp
abbrev pub verdict_on : ClockEvents → List Pair → List Pair → ℕ → Verdict
verdict_on t claimed least f =
    if is_lt (stamp_cmp (pair_at claimed f) (clock_event_at t f).floor) then Behind
    else not_above_or (first_not_above t claimed f) (verdict_by_least (pair_at least f) (stamp_cmp (pair_at claimed f) (pair_at least f)))
