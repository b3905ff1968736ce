-- What a clock rule reads of events: floors, and which events tick.
use Rattle.std.specs.Prelude.{ℕ, Bool, true, Option, None, List, map, slice_index_or}
use Rattle.hlc_stamp.specs.Order.{Pair, zero_pair}
use Rattle.hlc_causality.specs.Causality.{Skeleton, SkeletonEvent}

-- what a clock rule reads of an event: its node; its floor, below which its pair may not be; whether it ticks: then its pair has to be
-- above those directly before it, else only not below them; and, of a delivery, the place of its send
pub record ClockEvent : Type 0 where
  pub node : ℕ
  pub floor : Pair
  pub ticks : Bool
  pub send : Option ℕ

-- the events as a clock rule reads them
abbrev pub ClockEvents : Type 0
ClockEvents = List ClockEvent

-- the event at a place
abbrev pub clock_event_at : ClockEvents → ℕ → ClockEvent
clock_event_at t e = slice_index_or t e (record { node = 0; floor = zero_pair; ticks = true; send = None })

-- an event as causality sees it: its reading is the l of its floor
abbrev pub skeleton_event : ClockEvent → SkeletonEvent
skeleton_event x = record { node = x.node; reading = x.floor.l; send = x.send }

-- the events as causality sees them
abbrev pub clock_skeleton : ClockEvents → Skeleton
clock_skeleton t = map skeleton_event t

-- an event that ticks, and whose floor is its reading with c 0
abbrev pub ticking_event : SkeletonEvent → ClockEvent
ticking_event x = record { node = x.node; floor = record { l = x.reading; c = 0 }; ticks = true; send = x.send }

-- each event ticks, and its floor is its reading with c 0
abbrev pub ticking : Skeleton → ClockEvents
ticking s = map ticking_event s
