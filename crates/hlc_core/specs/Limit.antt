-- A drift limit: how far an event may be ahead of its reading.
use Rattle.std.specs.Prelude.{◌==◌, ◌-◌, ◌<◌, ◌≤◌, ℕ, Bool, false, Option, Some, None, List, fold, if◌then◌else◌, length, max, nat_lt, option_map, unwrap_or}
use Rattle.hlc_arena.specs.ClockRule.{drift_of}
use Rattle.hlc_arena.specs.History.{Event, EventKind, StampedEvent, delivered_send, stamp_at}

-- the l of a node's last event, or 0 before its first
abbrev pub last_l : List StampedEvent → ℕ → ℕ
last_l events node = fold (λ l x. if x.event.node == node then x.stamp.l else l) 0 events

-- the l of the message that an event delivers, or 0 if it delivers none
abbrev pub message_l : List StampedEvent → EventKind → ℕ
message_l events kind = unwrap_or (option_map (λ sent. (stamp_at events sent).l) (delivered_send kind)) 0

-- the drift that an event would have if it came next: its l is at least those of the node's last event and of the message
abbrev pub drift_if_next : List StampedEvent → Event → ℕ
drift_if_next events e = max (last_l events e.node) (message_l events e.kind) - e.reading

-- whether a drift is above the limit, if there is one
abbrev pub exceeds : Option ℕ → ℕ → Bool
exceeds None drift = false
exceeds (Some limit) drift = nat_lt limit drift

-- a drift is within the limit, if there is one
abbrev pub IsWithinLimit : Option ℕ → ℕ → Type 0
IsWithinLimit None drift = Unit {0}
IsWithinLimit (Some limit) drift = drift ≤ limit

-- the drift of each event is within the limit, if there is one
abbrev pub AreWithinLimit : Option ℕ → List StampedEvent → Type 0
AreWithinLimit limit events = (e : ℕ) → e < length events → IsWithinLimit limit (drift_of events e)
