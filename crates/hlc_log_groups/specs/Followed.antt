-- The event whose stamp the stamp of the clock rule follows.
use Rattle.std.specs.Prelude.{ℕ, Option, Some, None, List, if◌then◌else◌}
use Rattle.std.specs.Ordering.{is_le, is_lt}
use Rattle.hlc_stamp.specs.Order.{Pair, stamp_cmp}
use Rattle.hlc_causality.specs.Assignment.{pair_at}
use Rattle.hlc_causality.specs.ClockEvents.{ClockEvents, clock_event_at, clock_skeleton}
use Rattle.hlc_causality.specs.LeastFeasible.{next_pair}
use Rattle.hlc_causality.specs.Predecessors.{previous_of, send_of}
use Rattle.hlc_ordered_log.specs.InOrder.{LogInOrder, clocks_of, seen_of}

-- of two events, if there are any, the one with the greater claimed pair, the first if they tie
abbrev pub greater_of : List Pair → Option ℕ → Option ℕ → Option ℕ
greater_of claimed None b = b
greater_of claimed (Some a) None = Some a
greater_of claimed (Some a) (Some b) = Some (if is_lt (stamp_cmp (pair_at claimed a) (pair_at claimed b)) then b else a)

-- an event, unless the pair claimed there is below a floor
abbrev pub unless_below : List Pair → (floor : Pair) → Option ℕ → Option ℕ
unless_below claimed floor None = None
unless_below claimed floor (Some d) = if is_le (stamp_cmp floor (pair_at claimed d)) then Some d else None

-- the direct predecessor of f whose claimed pair the rule's pair at f comes directly after, or None if that is f's floor
abbrev pub followed_at : ClockEvents → List Pair → ℕ → Option ℕ
followed_at t claimed f =
    let s = clock_skeleton t in
    unless_below claimed (clock_event_at t f).floor (greater_of claimed (previous_of s f) (send_of s f))

-- the pair at f that comes directly after the one claimed at an event, or f's floor if there is none
abbrev pub pair_after : ClockEvents → List Pair → ℕ → Option ℕ → Pair
pair_after t claimed f None = (clock_event_at t f).floor
pair_after t claimed f (Some d) = next_pair (clock_event_at t f).ticks (pair_at claimed d)

-- the event whose stamp the rule's stamp at a position of a log follows, by the stamps that the event there saw claimed
abbrev pub followed_in : LogInOrder → ℕ → Option ℕ
followed_in log k = followed_at (clocks_of log) (seen_of log k) k
