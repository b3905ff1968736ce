-- The events whose marks show why an event has its stamp.
use Rattle.std.specs.Prelude.{◌≡◌, ℕ, ◌-◌, ◌<◌, ◌≤◌, Bool, false, List, [], Option, Some, None, find, if◌then◌else◌, length, nat_le, nat_lt, slice_index_or}
use Rattle.hlc_stamp.specs.Ids.{is_among}
use Rattle.hlc_stamp.specs.declared.id.EventId.{EventId}
use Rattle.hlc_stamp.specs.Order.{Pair}
use Rattle.hlc_causality.specs.ClockEvents.{ClockEvents}
use Rattle.hlc_causality.specs.FollowedClockChains.{clock_chain_of}
use Rattle.hlc_svg.specs.declared.frame.Frame.{Frame}

-- the chain of the event that is explained, which is empty if there is no such event
abbrev pub chosen : ClockEvents → List Pair → Option EventId → List ℕ
chosen t pairs None = []
chosen t pairs (Some e) = if nat_lt e.0 (length t) then clock_chain_of t pairs e.0 else []

-- whether an event is marked
abbrev pub is_marked : ClockEvents → List Pair → Option EventId → ℕ → Bool
is_marked t pairs explained e = is_among (chosen t pairs explained) e

-- of each event that is drawn, whether it is one of these
pub record AreMarks (list : List ℕ) (frame : Frame) (marks : List Bool) : Type 0 where
  pub each_drawn : length marks ≡ frame.end - frame.first
  pub marked : (e : ℕ) → frame.first ≤ e → e < frame.end → slice_index_or marks (e - frame.first) false ≡ is_among list e

-- the first of some events that comes after those that are drawn
abbrev pub first_past : List ℕ → Frame → Option ℕ
first_past list frame = find (λ e. nat_le frame.end e) list

-- the event with which the chain goes on after those that are drawn
abbrev pub next_marked : ClockEvents → List Pair → Option EventId → Frame → Option ℕ
next_marked t pairs explained frame = first_past (chosen t pairs explained) frame

-- an event is named that isn't there
abbrev pub IsMissing : {X : Type 0} → List X → Option EventId → Type 0
IsMissing events None = ⊥
IsMissing events (Some e) = length events ≤ e.0
