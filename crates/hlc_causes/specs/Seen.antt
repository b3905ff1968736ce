-- Claimed stamps as an event sees them whose message carried a stamp.
use Rattle.std.specs.Prelude.{ℕ, Option, Some, None, List, if◌then◌else◌, slice_set}
use Rattle.hlc_stamp.specs.declared.id.EventId.{EventId}
use Rattle.hlc_stamp.specs.Order.{Pair}
use Rattle.hlc_causality.specs.Assignment.{pair_at}
use Rattle.hlc_causality.specs.ClockEvents.{ClockEvents, clock_skeleton}
use Rattle.hlc_causality.specs.FollowedClockChains.{is_same_pair}
use Rattle.hlc_causality.specs.Predecessors.{send_of}

-- the claimed stamps, but in place of that of a send what its message carried, if there is both
abbrev pub seen : List Pair → (send : Option ℕ) → (carried : Option Pair) → List Pair
seen claimed (Some d) (Some p) = slice_set claimed d p
seen claimed _ _ = claimed

-- the same, with both together
abbrev pub seen_with : List Pair → Option (EventId × Pair) → List Pair
seen_with claimed None = claimed
seen_with claimed (Some (d, p)) = slice_set claimed d.0 p

-- the claimed stamps as f saw them, by what the messages of events carried
abbrev pub seen_at : ClockEvents → List Pair → (carried : ℕ → Option Pair) → ℕ → List Pair
seen_at t claimed carried f = seen claimed (send_of (clock_skeleton t) f) (carried f)

-- a send, if a message carried another stamp than is claimed there
abbrev pub wrong_among : List Pair → (send : Option ℕ) → (carried : Option Pair) → Option ℕ
wrong_among claimed (Some d) (Some p) = if is_same_pair p (pair_at claimed d) then None else Some d
wrong_among claimed _ _ = None

-- the send of what f delivers, if the message carried another stamp than the send claims
abbrev pub wrongly_carried : ClockEvents → List Pair → (carried : ℕ → Option Pair) → ℕ → Option ℕ
wrongly_carried t claimed carried f = wrong_among claimed (send_of (clock_skeleton t) f) (carried f)
