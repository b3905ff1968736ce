-- A log without the events that have no place in any causal order.
use Rattle.std.specs.Prelude.{◌↔◌, ℕ, ◌<◌, Bool, true, false, Contains, List, length, not, slice_index_or}
use Rattle.std.specs.List.Sorted.{IsStrictlyIncreasing}
use Rattle.hlc_log.specs.declared.log_event.LogEvent.{LogEvent}
use Rattle.hlc_log.specs.CausalOrder.{IsCausalPrefix, Waits}
use Rattle.hlc_log.specs.Messages.{AreMessagesSound}

-- an order of events in which each may come next after those before it, and that has a place for each event that has one in any such order
pub record IsGreatestPrefix (events : List LogEvent) (order : List ℕ) : Type 0 where
  pub causal : IsCausalPrefix events order
  pub others : (e : ℕ) → e < length events → ¬ Contains order e → Waits events e

-- exactly the places below n that have a property, rising
pub record AreThoseWith (n : ℕ) (HasProperty : ℕ → Type 0) (places : List ℕ) : Type 0 where
  pub rise : IsStrictlyIncreasing places
  pub exactly : (e : ℕ) → Contains places e ↔ ((e < n) × HasProperty e)

-- messages are sound, and the events of a log are parted: those that wait are left out, and the others are kept
pub record IsParted (events : List LogEvent) (kept left_out : List ℕ) : Type 0 where
  pub sound : AreMessagesSound events
  pub kept_are : AreThoseWith (length events) (λ e. ¬ Waits events e) kept
  pub left_are : AreThoseWith (length events) (Waits events) left_out

-- whether the mark at a place is this one
abbrev pub is_marked : List Bool → (mark : Bool) → ℕ → Bool
is_marked marks true e = slice_index_or marks e false
is_marked marks false e = not (slice_index_or marks e false)
