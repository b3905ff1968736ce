-- How many units of l make one of the readings, where these look as if they had another unit.
use Rattle.std.specs.Prelude.{◌==◌, ◌&&◌, ℕ, ◌*◌, Bool, List, Option, Some, None, count_by, if◌then◌else◌, nat_le, nat_lt, not}
use Rattle.hlc_log.specs.declared.log_event.LogEvent.{LogEvent}

-- whether l of an event's stamp is so many times its reading, to within a tenth
abbrev pub is_scaled : (factor : ℕ) → LogEvent → Bool
is_scaled factor event =
    nat_le (9 * (factor * event.reading)) (10 * event.stamp.l) && nat_le (10 * event.stamp.l) (11 * (factor * event.reading))

-- whether a log tells both the reading and the stamp of an event
abbrev pub tells_both : LogEvent → Bool
tells_both event = event.has_reading && event.has_stamp

-- whether it does, and l isn't so many times the reading
abbrev pub is_unscaled : (factor : ℕ) → LogEvent → Bool
is_unscaled factor event = tells_both event && not (is_scaled factor event)

-- whether l is so many times the reading at each event of which both are told, and there is one
abbrev pub are_scaled : (factor : ℕ) → List LogEvent → Bool
are_scaled factor events = nat_lt 0 (count_by tells_both events) && (count_by (is_unscaled factor) events == 0)

-- the factor between two units of time, a second and so many thousandths of thousandths of it, by which this is so
abbrev pub unit_factor : List LogEvent → Option ℕ
unit_factor events =
    if are_scaled 1000 events then Some 1000
    else if are_scaled 1000000 events then Some 1000000
    else if are_scaled 1000000000 events then Some 1000000000
    else None
