-- The claims of a log that are over a limit.
use Rattle.std.specs.Prelude.{◌≡◌, ◌==◌, ◌&&◌, Bool, false, ℕ, ◌+◌, ◌-◌, ◌<◌, ◌≤◌, List, Option, Some, None, count_by, if◌then◌else◌, length, nat_le, nat_lt, slice_index_or, take}
use Rattle.hlc_stamp.specs.declared.id.EventId.{EventId}
use Rattle.hlc_log.specs.Events.{event_at}
use Rattle.hlc_log.specs.declared.log_event.LogEvent.{LogEvent}
use Rattle.hlc_log_audit.specs.declared.over.Over.{Over}

-- how far the l that an event claims is above its reading, or 0 if one of these isn't told
abbrev pub claimed_ahead : LogEvent → ℕ
claimed_ahead event = if event.has_reading && event.has_stamp then event.stamp.l - event.reading else 0

-- the event at a place claims an l that is above its reading by more than a limit; so both are told
abbrev pub IsClaimOver : (limit : ℕ) → List LogEvent → ℕ → Type 0
IsClaimOver limit events e = (e < length events) × (limit < claimed_ahead (event_at events e))

-- whether an event is a node's, and claims an l that is above its reading by more than a limit
abbrev pub is_over : (limit node : ℕ) → LogEvent → Bool
is_over limit node event = if event.node.0 == node then nat_lt limit (claimed_ahead event) else false

-- how many of the first n events are so
abbrev pub over_count : (limit : ℕ) → List LogEvent → (n node : ℕ) → ℕ
over_count limit events n node = count_by (is_over limit node) (take n events)

-- the event at e is one of the first n, and a node's, and its claim is over a limit
pub record IsOverAt (limit : ℕ) (events : List LogEvent) (n node e : ℕ) : Type 0 where
  pub before : e < n
  pub at_node : (event_at events e).node.0 ≡ node
  pub over : limit < claimed_ahead (event_at events e)

-- of a node's claims among the first n events that are over a limit: how many they are, the first, the first of those furthest above their
-- readings, and how far that is
pub record IsOverBefore (limit : ℕ) (events : List LogEvent) (n node : ℕ) (over : Over) : Type 0 where
  pub count : over.claims ≡ over_count limit events n node
  pub first : IsOverAt limit events n node over.first.0
  pub none_earlier : (e : ℕ) → IsOverAt limit events n node e → over.first.0 ≤ e
  pub furthest : IsOverAt limit events n node over.furthest.0
  pub ahead : over.ahead ≡ claimed_ahead (event_at events over.furthest.0)
  pub none_further : (e : ℕ) → IsOverAt limit events n node e → claimed_ahead (event_at events e) ≤ over.ahead
  pub first_furthest : (e : ℕ) → e < over.furthest.0 → IsOverAt limit events n node e → claimed_ahead (event_at events e) < over.ahead

-- an answer is that, or None if there are none
abbrev pub NamesOverBefore : (limit : ℕ) → List LogEvent → (n node : ℕ) → Option Over → Type 0
NamesOverBefore limit events n node None = (over_count limit events n node ≡ 0) × ((e : ℕ) → ¬ IsOverAt limit events n node e)
NamesOverBefore limit events n node (Some over) = IsOverBefore limit events n node over

-- an answer for each of so many nodes
pub record AreOversBefore (limit nodes : ℕ) (events : List LogEvent) (n : ℕ) (overs : List (Option Over)) : Type 0 where
  pub one_each : length overs ≡ nodes
  pub each : (node : ℕ) → node < nodes → NamesOverBefore limit events n node (slice_index_or overs node None)

-- the same of all events
abbrev pub AreOvers : (limit nodes : ℕ) → List LogEvent → List (Option Over) → Type 0
AreOvers limit nodes events overs = AreOversBefore limit nodes events (length events) overs

-- one claim more, by a later event
abbrev pub with_claim : Option Over → (place : EventId) → (ahead : ℕ) → Over
with_claim None place ahead = record { claims = 1; first = place; furthest = place; ahead = ahead }
with_claim (Some over) place ahead =
    if nat_le ahead over.ahead then record over { claims = over.claims + 1 }
    else record over { claims = over.claims + 1; furthest = place; ahead = ahead }
